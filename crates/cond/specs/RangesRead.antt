-- What step 5 reads of a block that states a condition. Assumes nothing.
use Rattle.std.specs.Prelude.{◌≡◌, List, ℕ, ◌<◌, length, get_or}
use Rattle.blocks.specs.Layout.{range_count}
use Rattle.bounds.specs.declared.CondBounds.{CondBounds}
use Rattle.stated.specs.Items.{all_numbers}
use Rattle.cond.specs.Ranges.{range_in}

-- the ranges that are stated, as many and each as it is
pub record RangesRead (b : List ℕ) (ranges : List CondBounds) : Type 0 where
  pub count : range_count b ≡ length ranges
  pub each : (k : ℕ) → k < length ranges → range_in b k ≡ get_or ranges k all_numbers
