-- Laws of the ranges of a block: no start is excluded, so that emptiness and intersection of cut ranges are never refused. Assumes nothing.
use mathlib.Core.Path.{◌≡◌, refl, ap, ◌∙◌}
use mathlib.Core.Bool.{Bool, true, false, cond, not, not-not}
use mathlib.Core.List.{List}
use Prim.Native.Nat.{ℕ}
use lib.Dec.{eqb}
use Rattle.answer.specs.Paper.{Answer, gives}
use Rattle.blocks.specs.Layout.{stated_range}
use Rattle.std.specs.declared.ops.Bound.{Bound}
use Rattle.bounds.specs.declared.CondBounds.{CondBounds}
use Rattle.bounds.specs.Bounds.{meets, is_excluded, is_empty, common, intersection}
use Rattle.bounds.proofs.InNumbers.{clipped-meets}
use Rattle.cond.specs.Ranges.{range_in, clipped_in}

-- an answer gives one value
pub gave : {A : Type 0} {a : Answer A} {u v : A} → a ≡ gives u → a ≡ gives v → u ≡ v
gave p q = cc

-- ---- the ranges of a block

module _ (b : List ℕ) where
  -- they start nowhere or with a number
  pub never-excluded : (k : ℕ) → is_excluded (range_in b k).start ≡ false
  unfolding range_in
  never-excluded k = told (eqb (stated_range b k).opens 0) (stated_range b k).start
    where
      told : (none : Bool) (n : ℕ) → is_excluded (cond none Bound.Unbounded (Bound.Included n)) ≡ false
      told true n = refl
      told false n = refl

  module _ (most j k : ℕ) where
    -- two of them have a range in common
    pub in-common : intersection (clipped_in b most j) (clipped_in b most k) ≡ gives (common (clipped_in b most j) (clipped_in b most k))
    in-common = (clipped-meets (range_in b j) (range_in b k) most (never-excluded j) (never-excluded k)).0

    -- and whether that is empty tells whether they meet
    pub meeting : {both : CondBounds} {empty : Bool} → intersection (clipped_in b most j) (clipped_in b most k) ≡ gives both
        → ((e : Bool) → is_empty both ≡ gives e → empty ≡ e) → not empty ≡ meets (clipped_in b most j) (clipped_in b most k)
    meeting p q =
        let law = (clipped-meets (range_in b j) (range_in b k) most (never-excluded j) (never-excluded k)).1 in
        ap not (q _ (ap is_empty (gave p in-common) ∙ law)) ∙ not-not _
