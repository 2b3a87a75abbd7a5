-- The names of a sheet's fields, and the field that a name means. Assumes nothing.
use Rattle.std.specs.Prelude.{Bool, List, ℕ, Option}
use Rattle.octets.specs.Octets.{same}
use Rattle.octets.specs.Ascii.{ascii}
use Rattle.blocks.specs.Layout.{name_of}
use Rattle.sheet.specs.Blocks.{block_at, field_count}
use Rattle.answer.specs.Walk.{first_where}

-- the name of field i
abbrev pub name_at : List ℕ → ℕ → List ℕ
name_at s i = name_of (block_at s i)

-- the first of the first n fields that has a name, byte for byte
abbrev pub named_among : List ℕ → List ℕ → ℕ → Option ℕ
named_among s name n = first_where (λ i. same (name_at s i) name) n

-- the field of a name
abbrev pub field_named : List ℕ → List ℕ → Option ℕ
field_named s name = named_among s name (field_count s)

-- no field may be named `type`
abbrev pub type_word : List ℕ
type_word = ascii "type"

abbrev pub is_reserved : List ℕ → Bool
is_reserved name = same name type_word
