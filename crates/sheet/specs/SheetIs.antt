-- What exactly step 1 accepts, said of the blocks and not of the tests. Assumes nothing.
use Rattle.std.specs.Prelude.{◌≡◌, List, ℕ, ◌+◌, ◌*◌, ◌≤◌, ◌<◌, length, take}
use Rattle.blocks.specs.Layout.{block_size, check_at, kind_f, kind_l, kind_c, stated_slot}
use Rattle.blocks.specs.Ones.{words, ones_sum}
use Rattle.stated.specs.Items.{Item, WellFormed}
use Rattle.stated.specs.Stated.{stated}
use Rattle.sheet.specs.Blocks.{block_count, block_at, kind_at, field_count, length_count, cond_count}

-- how many blocks there are, and in which order
pub record InOrder (s : List ℕ) : Type 0 where
  -- whole blocks, at most 99
  pub whole : length s ≡ block_size * block_count s
  pub most : block_count s ≤ 99
  -- first the F blocks, then the L blocks, then the C blocks, and no others
  pub f-first : (i : ℕ) → i < field_count s → kind_at s i ≡ kind_f
  pub l-next : (i : ℕ) → field_count s ≤ i → i < field_count s + length_count s → kind_at s i ≡ kind_l
  pub c-last : (i : ℕ) → field_count s + length_count s ≤ i → i < block_count s → kind_at s i ≡ kind_c
  pub no-others : field_count s + length_count s + cond_count s ≡ block_count s
  -- at most 64, 3 and 32
  pub most-fields : field_count s ≤ 64
  pub most-lengths : length_count s ≤ 3
  pub most-conds : cond_count s ≤ 32
  -- no two L blocks give one slot
  pub one_each : (i j : ℕ) → i < j → j < block_count s → kind_at s i ≡ kind_l → kind_at s j ≡ kind_l → stated_slot (block_at s i) ≡ stated_slot (block_at s j) → ⊥

-- and of each block: its words have the sum 65,535, and what stands before its check states an item
pub record SheetIs (s : List ℕ) : Type 0 where
  pub in_order : InOrder s
  pub checked : (i : ℕ) → i < block_count s → ones_sum (words (block_at s i)) ≡ 65535
  pub laid_out : (i : ℕ) → i < block_count s → (d : Item) × WellFormed d × (take check_at (block_at s i) ≡ stated d)
