-- Step 3: whether the fields of a sheet make a header. Assumes nothing.
use Rattle.std.specs.Prelude.{Bool, not, ◌&&◌, List, ℕ, ◌+◌, ◌/◌, ◌%◌, leb, ltb, eqb}
use Rattle.answer.specs.declared.Group.{Group}
use Rattle.answer.specs.Paper.{Answer, gives, Check, refuse, ◌and_then◌, first}
use Rattle.answer.specs.Walk.{is_some}
use Rattle.number.specs.Numbers.{max_bytes}
use Rattle.bits.specs.Bits.{touched}
use Rattle.sheet.specs.Blocks.{block_count, field_count}
use Rattle.types.specs.declared.BuiltinTypes.{BuiltinTypes}
use Rattle.types.specs.Types.{is_slice}
use Rattle.field.specs.Sound.{width_of}
use Rattle.field_blocks.specs.Step.{field_at}
use Rattle.header.specs.declared.Header.{Header}
use Rattle.header.specs.Names.{name_at, named_among, is_reserved}
use Rattle.header.specs.Starts.{start_at, bits_of}

-- header 1: a name that a field before it has
abbrev pub used_before : List ℕ → ℕ → Bool
used_before s i = is_some (named_among s (name_at s i) i)

-- header 3: at most 64 bits, but more than 8 bytes touched
abbrev pub over_eight : ℕ → ℕ → Bool
over_eight start width = leb width 64 && ltb 8 (touched start width)

-- header 4: a byte slice off a byte boundary
abbrev pub off_boundary : ℕ → BuiltinTypes → Bool
off_boundary start repr = is_slice repr && not (eqb (start % 8) 0)

-- header 5: the bits so far, divided by 8 without the remainder kept, over 4,194,303
abbrev pub too_long : ℕ → Bool
too_long bits = ltb max_bytes (bits / 8)

-- header 1 to 5 of field i, in this order
unfoldable pub header_fault : List ℕ → ℕ → Check
header_fault s i =
    refuse (used_before s i) Group.Header 1 i
    and_then refuse (is_reserved (name_at s i)) Group.Header 2 i
    and_then refuse (over_eight (start_at s i) (width_of (field_at s i))) Group.Header 3 i
    and_then refuse (off_boundary (start_at s i) (field_at s i).repr) Group.Header 4 i
    and_then refuse (too_long (start_at s i + width_of (field_at s i))) Group.Header 5 i

-- field after field; then header 6, with the block count as its place: the bits of all are no multiple of 8
unfoldable pub header_check : List ℕ → Check
header_check s =
    first (header_fault s) (field_count s)
    and_then refuse (not (eqb (bits_of s % 8) 0)) Group.Header 6 (block_count s)

-- ---- the header

abbrev pub header_bytes : List ℕ → ℕ
header_bytes s = bits_of s / 8

-- how many fields it has, and how many bytes
abbrev pub header_of : List ℕ → Header
header_of s = record { fields = field_count s; len = record { 0 = header_bytes s } }

-- the header of a sheet's fields, or the refusal
abbrev pub new_header : List ℕ → Answer Header
new_header s = header_check s and_then gives (header_of s)
