-- What step 5 reads of a block that states a condition are its ranges: `ranges-read`. The layout reads their codes and numbers back (`read_back`). Assumes
-- nothing.
use mathlib.Core.Path.{◌≡◌, refl, ap, ◌∙◌}
use mathlib.Core.List.{List}
use Prim.Native.Nat.{ℕ}
use native.Mathlib.Omega.{arith}
use lib.ListN.{length, get_or, take}
use Rattle.octets.specs.Octets.{AreBytes}
use Rattle.blocks.specs.declared.StatedRange.{StatedRange}
use Rattle.blocks.specs.Layout.{block_size, check_at, stated_range}
use Rattle.std.specs.declared.ops.Bound.{Bound}
use Rattle.bounds.specs.declared.CondBounds.{CondBounds}
use Rattle.stated.specs.Items.{WellFormedStart, WellFormedRange, all_numbers, cond_item, WellFormed}
use Rattle.stated.specs.Stated.{bound_kind, bound_number, range_codes, stated}
use Rattle.stated.proofs.C.{bound-back}
use Rattle.stated.proofs.Laws.{read_back}
use Rattle.cond.specs.Ranges.{start_bound, end_bound, range_in}
use Rattle.cond.specs.RangesRead.{RangesRead}

start-read : (s : Bound ℕ) → WellFormedStart s → start_bound (bound_kind s) (bound_number s) ≡ s
start-read Bound.Unbounded good = refl
start-read (Bound.Included n) good = refl
start-read (Bound.Excluded n) good = absurd good

range-read : (b : List ℕ) (k : ℕ) (r : CondBounds) → WellFormedRange r → stated_range b k ≡ range_codes r → range_in b k ≡ r
unfolding range_in
range-read b k r good e =
    ap (λ (c : StatedRange). record { start = start_bound c.opens c.start; end = end_bound c.closes c.end }) e
    ∙ rw (start-read r.start good.0, bound-back r.end)

pub ranges-read : (b : List ℕ) → AreBytes b → length b ≡ block_size → (name : List ℕ) (ranges : List CondBounds)
    → WellFormed (cond_item name ranges) → take check_at b ≡ stated (cond_item name ranges) → RangesRead b ranges
ranges-read b bytes long name ranges good says =
    let r = read_back b bytes long (cond_item name ranges) good says in
    record { count = r.count; each = λ k h. range-read b k (get_or ranges k all_numbers) (good.1.each k h) (r.each k (omega (arith, r.count))) }
