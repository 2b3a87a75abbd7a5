-- What exactly step 2 accepts of a sheet, said of its F blocks' items and not of the tests. Assumes nothing.
use Rattle.std.specs.Prelude.{◌≡◌, List, ℕ, ◌<◌}
use Rattle.blocks.specs.Layout.{kind_f, stated_bits}
use Rattle.sheet.specs.Blocks.{block_count, block_at, kind_at}
use Rattle.field.specs.FieldIs.{FieldIs}
use Rattle.field_blocks.specs.OnBlock.{repr_in, arg_in, default_in}

-- the items of a block are those of a field
abbrev pub FieldStated : List ℕ → Type 0
FieldStated b = FieldIs (stated_bits b) (repr_in b) (arg_in b) (default_in b)

-- and so of every F block
pub record FieldsAre (s : List ℕ) : Type 0 where
  pub each : (i : ℕ) → i < block_count s → kind_at s i ≡ kind_f → FieldStated (block_at s i)
