-- The field that a block's name means. Assumes nothing.
use Rattle.std.specs.Prelude.{List, ℕ, Option, None, Some}
use Rattle.field.specs.declared.Field.{Field}
use Rattle.field_blocks.specs.Step.{field_at}
use Rattle.header.specs.Names.{name_at, field_named}

abbrev pub field_here : List ℕ → Option ℕ → Option Field
field_here s (Some k) = Some (field_at s k)
field_here s None = None

abbrev pub field_of_block : List ℕ → ℕ → Option Field
field_of_block s i = field_here s (field_named s (name_at s i))
