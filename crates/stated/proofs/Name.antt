-- The name of a block: its length, its bytes, then zeros. Assumes nothing.
use mathlib.Core.Path.{◌≡◌, sym, ◌∙◌}
use mathlib.Core.Bool.{true}
use mathlib.Core.List.{List, [], ◌∷◌}
use Prim.Native.Nat.{ℕ, zero, suc, ◌+◌, ◌≤◌, ◌<◌}
use native.Mathlib.Omega.{arith}
use lib.Dec.{leb, lit≤}
use lib.ListN.{length}
use lib.Seq.{length-slice, slice}
use borrow.Author.Tests.{leb-true, le-leb}
use Rattle.octets.specs.Octets.{AreBytes, all, all_in, is_zero, is_name_byte}
use Rattle.blocks.specs.Layout.{block_size, name_length, name_of, named}
use Rattle.stated.specs.Parts.{padded}
use Rattle.stated.specs.Items.{WellFormedName}
use Rattle.stated.proofs.Reading.{Fits, ReadsAs}
use Rattle.answer.proofs.Tests.{both_hold}
use Rattle.stated.proofs.Parts.{bytes-none}

plain-bytes : (s : List ℕ) → all is_name_byte s ≡ true → AreBytes s
unfolding all is_name_byte
plain-bytes [] h i = bytes-none i
plain-bytes (x ∷ s) h zero =
    let p = both_hold (is_name_byte x) (all is_name_byte s) h in
    let q = both_hold (leb 33 x) (leb x 126) p.0 in
    omega (arith, leb-true x 126 q.1)
plain-bytes (x ∷ s) h (suc i) = plain-bytes s (both_hold (is_name_byte x) (all is_name_byte s) h).1 i

-- a name has room where it stands
pub name-fits : (name : List ℕ) → WellFormedName name → (length name < 256) × Fits (padded 64 name)
name-fits name good = (omega (arith, good.few), (good.few, plain-bytes name good.plain))

module _ (b : List ℕ) (long : length b ≡ block_size) where
  -- n bytes and then zeros, up to a width
  pub counted : (at w n : ℕ) → n ≤ w → at + w ≤ block_size → all_in is_zero b (at + n) (at + w) ≡ true
      → (length (slice at (at + n) b) ≡ n) × ReadsAs b at (padded w (slice at (at + n) b))
  counted at w n h k z =
      let size : length (slice at (at + n) b) ≡ n = length-slice at (at + n) b (omega arith) ∙ omega arith in
      (size, (rw size, rw size z))

  pub name-read : named b ≡ true → WellFormedName (name_of b) × (name_length b ≡ length (name_of b)) × ReadsAs b 2 (padded 64 (name_of b))
  unfolding named name_of all_in
  name-read h =
      let p = both_hold _ _ h in
      let q = both_hold _ _ p.0 in
      let r = both_hold _ _ q.0 in
      let few = leb-true (name_length b) 64 r.1 in
      let two = counted 2 64 (name_length b) few (lit≤ tt) p.1 in
      (record { some = rw two.0 (leb-true 1 (name_length b) r.0); few = rw two.0 few; plain = q.1 }, sym two.0, two.1)

  pub name_back : (name : List ℕ) → name_length b ≡ length name → ReadsAs b 2 (padded 64 name) → name_of b ≡ name
  unfolding name_of
  name_back name size read = rw size read.0

  pub name-holds : (name : List ℕ) → WellFormedName name → name_length b ≡ length name → ReadsAs b 2 (padded 64 name) → (named b ≡ true) × (name_of b ≡ name)
  unfolding named name_of all_in
  name-holds name good size read =
      let same = name_back name size read in
      (rw (same, size, le-leb 1 (length name) good.some, le-leb (length name) 64 (omega (arith, good.few)), good.plain) read.1, same)
