-- The fields of a sheet as the list that makes a header, and where each of them starts. Assumes nothing.
use Rattle.std.specs.Prelude.{cond, ◌&&◌, List, ℕ, ◌+◌, ltb, Option, None, Some}
use Rattle.std.proofs.Math.Seq.{slice}
use Rattle.bits.specs.Bits.{spelled}
use Rattle.bits.specs.Positions.{global_of}
use Rattle.sheet.specs.Blocks.{block_at, field_count}
use Rattle.types.specs.Types.{is_slice}
use Rattle.field.specs.declared.Field.{Field}
use Rattle.field.specs.declared.DefaultVal.{DefaultVal}
use Rattle.field.specs.Sound.{width_of}
use Rattle.field_blocks.specs.Step.{field_at}
use Rattle.layout.specs.Layout.{HeaderField}
use Rattle.layout.specs.Indexed.{fields_from, position}
use Rattle.bits.specs.declared.BitPos.{BitPos}

-- the number that a default's bits spell. Bytes are those of the span; an absent default has an empty span, and so is 0
abbrev pub default_number : List ℕ → DefaultVal → ℕ
default_number b (DefaultVal.Num n) = n
default_number b (DefaultVal.Bool flag) = cond flag 1 0
default_number b (DefaultVal.Bytes span) = spelled (slice span.at (span.at + span.len) b)

-- the field of a block, as a header has it
abbrev pub as_header_field : List ℕ → Field → HeaderField
as_header_field b f = record { width = width_of f; is_bytes = is_slice f.repr; default = default_number b f.default; fixed = f.fixed }

abbrev pub header_field_at : List ℕ → ℕ → HeaderField
header_field_at s i = as_header_field (block_at s i) (field_at s i)

-- the header of a sheet
unfoldable pub header_layout : List ℕ → List HeaderField
header_layout s = fields_from (header_field_at s) 0 (field_count s)

-- where field i starts: the bits of the fields before it
abbrev pub start_at : List ℕ → ℕ → ℕ
start_at s i = position (header_field_at s) i

-- the bits of all fields
abbrev pub bits_of : List ℕ → ℕ
bits_of s = start_at s (field_count s)

-- the start of a field, where there is such a field; a sheet has at most 64
unfoldable pub start_of : List ℕ → ℕ → Option ℕ
start_of s i = cond (ltb i 64 && ltb i (field_count s)) (Some (start_at s i)) None

-- the number of a start that is there
abbrev pub field_start_says : Option BitPos → Option ℕ
field_start_says (Some p) = Some (global_of p)
field_start_says None = None
