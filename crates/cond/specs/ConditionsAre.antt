-- What exactly step 5 accepts, said of the numbers that lie in the ranges and not of the tests. Assumes nothing.
use Rattle.std.specs.Prelude.{◌≡◌, true, List, ℕ, ◌≤◌, ◌<◌}
use Rattle.std.specs.Prelude.{Some}
use Rattle.sheet.specs.Blocks.{block_count, block_at, cond_count}
use Rattle.types.specs.declared.BuiltinTypes.{BuiltinTypes}
use Rattle.field.specs.declared.Field.{Field}
use Rattle.field_blocks.specs.Step.{field_at}
use Rattle.header.specs.Names.{name_at, field_named}
use Rattle.bounds.specs.Bounds.{inside}
use Rattle.cond.specs.Ranges.{range_in, largest_of}
use Rattle.cond.specs.Step.{is_entry}
use Rattle.blocks.specs.Layout.{range_count}

-- n lies in range k of a block, as it stands there, and is a value of the field
abbrev pub Lies : List ℕ → Field → ℕ → ℕ → Type 0
Lies b f k n = (inside (range_in b k) n ≡ true) × (n ≤ largest_of f)

-- the entry in block i
pub record Entry (s : List ℕ) (i : ℕ) : Type 0 where
  -- it names a field, which is no byte slice
  pub field : ℕ
  pub named : field_named s (name_at s i) ≡ Some field
  pub number : (field_at s field).repr ≡ BuiltinTypes.ByteSlice → ⊥
  -- in each of its ranges lies a value of the field, and none lies in two
  pub held : (k : ℕ) → k < range_count (block_at s i) → (n : ℕ) × Lies (block_at s i) (field_at s field) k n
  pub apart : (j k : ℕ) → j < k → k < range_count (block_at s i) → (n : ℕ) → Lies (block_at s i) (field_at s field) j n → Lies (block_at s i) (field_at s field) k n → ⊥

pub record ConditionsAre (s : List ℕ) : Type 0 where
  pub entries : (i : ℕ) → i < block_count s → is_entry (block_at s i) ≡ true → Entry s i
  -- no two entries name one field
  pub once : (i j : ℕ) → i < j → j < block_count s → is_entry (block_at s i) ≡ true → is_entry (block_at s j) ≡ true → name_at s i ≡ name_at s j → ⊥
  -- at most 8
  pub most : cond_count s ≤ 8
