-- What a buffer holds after a text was listed into it: the whole text where there is room for it, as there is for every text in 40,000 bytes. So too
-- for an input that was read into 50,689 bytes; there one answer and one buffer are right. Assumes nothing.
use mathlib.Core.Path.{◌≡◌, refl, sym, ap, ◌∙◌}
use mathlib.Core.List.{List}
use Prim.Native.Nat.{ℕ, ◌≤◌}
use native.Mathlib.Omega.{arith}
use lib.ListN.{length, take, drop, length-take}
use lib.Seq.{take_at, take_all}
use Rattle.listing.specs.Listing.{printed, Listed, WholeListed, InputListed}
use Rattle.listing.proofs.Front.{printed-front}
use Rattle.listing.proofs.Bound.{every-listing}

module _ {s b b' : List ℕ} {r : ℕ} (listed : Listed s b b' r) where
  -- the text is whole where the buffer has room for it
  pub whole-text : length (printed s) ≤ length b → WholeListed s b b' r
  whole-text fits = record { bytes = listed.bytes ∙ rw (take_all (length b) (printed s) fits); count = omega (arith, listed.count) }

  -- as 40,000 bytes always have
  pub whole-of-40000 : 40000 ≤ length b → WholeListed s b b' r
  whole-of-40000 room = whole-text (omega (arith, every-listing s))

module _ {s b b' : List ℕ} {r : ℕ} (listed : WholeListed s b b' r) where
  -- the bytes answered are the text
  pub text_in-front : take r b' ≡ printed s
  text_in-front = rw (listed.bytes, listed.count) (take_at (printed s) (drop (length (printed s)) b) (length (printed s)) refl)

  -- and lie in the buffer
  pub in_buffer : (r ≤ length b') × (r ≡ length (take r b'))
  in_buffer =
      let part : r ≡ length (take r b') = listed.count ∙ sym (ap length text_in-front) in
      (omega (arith, part, length-take r b'), part)

module _ {a b b' : List ℕ} {n r : ℕ} where
  -- of an input: listed was what was read of it, and one byte more than a sheet has was room enough for that
  pub input-listed : {t : List ℕ} → 50689 ≤ length a → 40000 ≤ length b → t ≡ take n a → Listed t b b' r → InputListed a n b b' r
  input-listed {t} enough room is listed =
      let whole = whole-of-40000 listed room in
      record {
        whole = λ s read.
            let same : printed t ≡ printed s = ap printed (is ∙ sym read) ∙ printed-front s (length a) enough in
            record { bytes = rw same at whole.bytes; count = rw same at whole.count };
      }

  -- what was read is such an input itself
  pub as_read : InputListed a n b b' r → WholeListed (take n a) b b' r
  as_read listed = listed.whole (take n a) (take_all (length a) (take n a) (simp length-take (omega arith)))

pub input-listed-one : {a b b' c : List ℕ} {n r q : ℕ} → InputListed a n b b' r → InputListed a n b c q → (b' ≡ c) × (r ≡ q)
input-listed-one one other = ((as_read one).bytes ∙ sym (as_read other).bytes, (as_read one).count ∙ sym (as_read other).count)
