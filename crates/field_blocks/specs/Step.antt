-- Step 2: field 1 to 7 of all F blocks of a sheet. Assumes nothing.
use Rattle.std.specs.Prelude.{List, ℕ}
use Rattle.answer.specs.Paper.{Check, first}
use Rattle.sheet.specs.Blocks.{block_at, field_count}
use Rattle.field.specs.declared.Field.{Field}
use Rattle.field_blocks.specs.OnBlock.{block_check, resolved_in}

-- all F blocks in order; of a sheet that passes step 1 they are the first blocks
abbrev pub fields_check : List ℕ → Check
fields_check s = first (λ i. block_check (block_at s i) i) (field_count s)

-- the field of F block i, with every item resolved
abbrev pub field_at : List ℕ → ℕ → Field
field_at s i = resolved_in (block_at s i)
