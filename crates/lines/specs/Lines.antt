-- The lines of the lister. Assumes nothing.
use Rattle.std.specs.Prelude.{cond, List, [], ◌∷◌, ℕ, ◌/◌, ◌%◌, eqb}
use Rattle.std.specs.Prelude.{Option, None, Some}
use Rattle.text.specs.Text.{decimal, hex, line}
use Rattle.answer.specs.declared.Group.{Group}
use Rattle.types.specs.Types.{type_name}
use Rattle.field.specs.declared.Field.{Field}
use Rattle.field.specs.Sound.{width_of}
use Rattle.field.specs.Fields.{write_guard}
use Rattle.slots.specs.declared.LengthField.{LengthField}
use Rattle.octets.specs.Ascii.{ascii}

-- ---- refused GROUP NUMBER PLACE

abbrev pub group_name : Group → List ℕ
group_name Group.Number = ascii "number"
group_name Group.Type = ascii "type"
group_name Group.Sheet = ascii "sheet"
group_name Group.Field = ascii "field"
group_name Group.Header = ascii "header"
group_name Group.Length = ascii "length"
group_name Group.Cond = ascii "cond"
group_name Group.Position = ascii "position"
group_name Group.Bound = ascii "bound"
group_name Group.Access = ascii "access"
group_name Group.Room = ascii "room"

unfoldable pub refusal_line : Group → ℕ → ℕ → List ℕ
refusal_line group number place = line (ascii "refused") (group_name group ∷ decimal number ∷ decimal place ∷ [])

-- ---- header BYTES

unfoldable pub header_line : ℕ → List ℕ
header_line bytes = line (ascii "header") (decimal bytes ∷ [])

-- ---- field INDEX BYTE BIT WIDTH REPR GUARD NAME: where its first bit is, its bits, its repr by the type's name, and 1 where a write to it is guarded

unfoldable pub field_line : ℕ → ℕ → Field → List ℕ → List ℕ
field_line index start f name =
    line (ascii "field")
    (decimal index
    ∷ decimal (start / 8)
    ∷ decimal (start % 8)
    ∷ decimal (width_of f)
    ∷ type_name f.repr
    ∷ decimal (cond (write_guard f) 1 0)
    ∷ name
    ∷ [])

-- ---- template HEX, and nothing after the word for 0 bytes

abbrev pub hex_word : List ℕ → List (List ℕ)
hex_word [] = []
hex_word (x ∷ t) = hex (x ∷ t) ∷ []

unfoldable pub template_line : List ℕ → List ℕ
template_line bytes = line (ascii "template") (hex_word bytes)

-- ---- length SLOT NAME LARGEST, with the length of the field's largest value; or length SLOT undefined; a slot that no block gives has no line

abbrev pub slot_name : ℕ → List ℕ
slot_name slot = cond (eqb slot 0) (ascii "header_len") (cond (eqb slot 1) (ascii "payload_len") (ascii "packet_len"))

-- a number as a word, where there is one
abbrev pub number_word : Option ℕ → List (List ℕ)
number_word (Some n) = decimal n ∷ []
number_word None = []

unfoldable pub undefined_line : ℕ → List ℕ
undefined_line slot = line (ascii "length") (slot_name slot ∷ ascii "undefined" ∷ [])

unfoldable pub worked_line : ℕ → List ℕ → Option ℕ → List ℕ
worked_line slot name largest = line (ascii "length") (slot_name slot ∷ name ∷ number_word largest)

abbrev pub length_line : ℕ → List ℕ → Option ℕ → LengthField → List ℕ
length_line slot name largest LengthField.Absent = []
length_line slot name largest LengthField.Undefined = undefined_line slot
length_line slot name largest (LengthField.Expr e) = worked_line slot name largest

-- ---- cond NAME FIRST LAST FIRST LAST ..

-- the words of a range, where it holds a number
abbrev pub range_words : Option (ℕ × ℕ) → List (List ℕ)
range_words (Some r) = decimal r.0 ∷ decimal r.1 ∷ []
range_words None = []
