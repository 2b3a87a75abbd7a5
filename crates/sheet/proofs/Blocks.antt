-- Laws of the blocks of a sheet: how long one is, that it is bytes, and the counts of kinds, block by block. Assumes nothing.
use mathlib.Core.Path.{◌≡◌, ◌∙◌}
use mathlib.Core.Bool.{Bool, true, false, cond}
use mathlib.Core.List.{List, []}
use Prim.Native.Nat.{ℕ, zero, suc, ◌+◌, ◌*◌, ◌≤◌, ◌<◌}
use native.Mathlib.Numerals.{add-one}
use native.Mathlib.Omega.{arith}
use lib.Dec.{ltb, lit<, lit≤}
use lib.ListN.{length}
use lib.Seq.{slice, length-slice}
use borrow.Author.Tests.{lt-ltb}
use Rattle.sheet.specs.declared.Counts.{Counts}
use Rattle.octets.specs.Octets.{AreBytes}
use Rattle.octets.proofs.Octets.{bytes-slice}
use Rattle.blocks.specs.Layout.{block_size, kind_of, is_f, is_l, is_c}
use Rattle.sheet.specs.Blocks.{block_count, block_at, count, counts_of}
use Rattle.sheet.specs.Working.{counted}

-- a block is whole
pub block-long : (s : List ℕ) (i : ℕ) → i < block_count s → length (block_at s i) ≡ block_size
unfolding block_at
block-long s i h = rw (lt-ltb i (block_count s) h) (length-slice (block_size * i) (block_size * i + block_size) s (omega arith) ∙ omega arith)

-- and of a sheet of bytes it is bytes, as is the nothing past the last
pub block-bytes : (s : List ℕ) → AreBytes s → (i : ℕ) → AreBytes (block_at s i)
unfolding block_at
block-bytes s bytes i = by-test (ltb i (block_count s))
  where
    by-test : (whole : Bool) → AreBytes (cond whole (slice (block_size * i) (block_size * i + block_size) s) [])
    by-test true = bytes-slice (block_size * i) (block_size * i + block_size) s bytes
    by-test false = λ k. lit< tt

-- one more or none
one-le : (test : Bool) → cond test 1 0 ≤ 1
one-le true = lit≤ tt
one-le false = lit≤ tt

module _ (s : List ℕ) where
  -- of the first i blocks at most i are of a kind
  pub count-le : (is_kind : ℕ → Bool) (i : ℕ) → count is_kind s i ≤ i
  unfolding count
  count-le is_kind zero = lit≤ tt
  count-le is_kind (suc i) = omega (arith, count-le is_kind i, one-le (is_kind (kind_of (block_at s i))))

  pub counts-none : {c : Counts} → (c.fields ≡ 0) × ((c.lengths ≡ 0) × (c.conds ≡ 0)) → c ≡ counts_of s 0
  unfolding count
  counts-none p = rw (p.0, p.1.0, p.1.1)

  pub counts-more : (i : ℕ) {before : Counts} {kind : ℕ} → before ≡ counts_of s i → kind ≡ kind_of (block_at s i) → counted before kind ≡ counts_of s (i + 1)
  unfolding count
  counts-more i e k = rw (add-one i, e, k)

  pub counts-le : (i : ℕ) {c : Counts} → c ≡ counts_of s i → (c.fields ≤ i) × (c.lengths ≤ i) × (c.conds ≤ i)
  counts-le i e = rw e (count-le is_f i, count-le is_l i, count-le is_c i)
