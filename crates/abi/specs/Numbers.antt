-- What the boundary tells, in numbers, and what it takes numbers for. Each list of numbers is a struct of include/pktfmt.h, member by member. Assumes nothing.
use Rattle.std.specs.Prelude.{true, false, cond, ◌&&◌, List, [], ◌∷◌, ◌++◌, ℕ, zero, suc, ◌+◌, ◌*◌, ◌/◌, eqb, length, get_or, replicate}
use Rattle.std.specs.Prelude.{Option, None, Some}
use Rattle.answer.specs.Walk.{or_zero}
use Rattle.blocks.specs.Layout.{block_size, name_begins, stated_bytes_at}
use Rattle.sheet.specs.Blocks.{field_count, cond_count}
use Rattle.types.specs.Types.{type_code, arg_code}
use Rattle.field.specs.declared.DefaultVal.{DefaultVal}
use Rattle.field.specs.declared.Field.{Field}
use Rattle.field.specs.Fields.{write_guard}
use Rattle.field_blocks.specs.Step.{field_at}
use Rattle.layout.specs.Layout.{fill}
use Rattle.layout.specs.Access.{Value, number, bytes, after}
use Rattle.header.specs.declared.Header.{Header}
use Rattle.header.specs.Names.{name_at, field_named}
use Rattle.header.specs.Starts.{header_layout}
use Rattle.expr.specs.declared.UsableAlgExpr.{UsableAlgExpr}
use Rattle.expr.specs.Forms.{forward, back, form_number, first_in, second_in, form_of}
use Rattle.slots.specs.declared.LengthField.{LengthField}
use Rattle.slots.specs.Slots.{length_field, block_of_slot}
use Rattle.length.specs.Step.{largest_length}
use Rattle.cond.specs.Step.{range_numbers}
use Rattle.definition.specs.declared.CondEntry.{CondEntry}
use Rattle.definition.specs.Unchecked.{cond_entry}
use Rattle.template.specs.Template.{template_check}
use Rattle.locator.specs.declared.Held.{Held}
use Rattle.locator.specs.declared.Locator.{Locator}
use Rattle.locator.specs.Locator.{first_bit, locator_width, locator_header, held_default}
use Rattle.access.specs.Access.{locator_of}
use Rattle.abi.specs.Told.{zeros, rows}

-- the version 0.2.0: its three numbers in one
abbrev pub version : ℕ
version = 0 * 1000000 + 2 * 1000 + 0

-- ---- a header: how many bytes, how many fields; and how many conditions the sheet has

abbrev pub header_numbers : List ℕ → Header → List ℕ
header_numbers s h = h.len.0 ∷ h.fields ∷ cond_count s ∷ []

-- ---- the buffer after the template: the template in front, or nothing changed

abbrev pub template_after : List ℕ → List ℕ → List ℕ
template_after s b = after (template_check s (length b)) (fill (header_layout s) b) b

-- ---- the locator of a field: its index, the header's bytes, its first bit, its bits, what it holds, and its default (0 for bytes)

-- 0 a number, 1 a number that is fixed to its default, 2 bytes
abbrev pub held_number : Held → ℕ
held_number (Held.Number default fixed) = cond fixed 1 0
held_number Held.Bytes = 2

abbrev pub locator_numbers : Locator → List ℕ
locator_numbers p = p.index ∷ locator_header p ∷ first_bit p ∷ locator_width p ∷ held_number p.held ∷ held_default p.held ∷ []

-- and back. The fifth and the sixth number stand for what is held: 0 a number, 1 a number that is fixed, each with its default, and 2 with the default 0 bytes; any others
-- stand for nothing
unfoldable pub held_from : ℕ → ℕ → Option Held
held_from held default =
    cond (eqb held 0) (Some (Held.Number default false)) (cond (eqb held 1) (Some (Held.Number default true)) (cond (eqb held 2 && eqb default 0) (Some Held.Bytes) None))

abbrev pub locator_with : List ℕ → ℕ → Held → Locator
locator_with l width held = record {
  index = get_or l 0 0;
  header = record { 0 = get_or l 1 0 };
  run = record { start = record { global = record { 0 = get_or l 2 0 } }; width = record { 0 = width } };
  held = held;
}

-- six numbers that stand for nothing held are taken for bytes of no bits, which no field has
abbrev pub locator_if : Option Held → List ℕ → Locator
locator_if (Some held) l = locator_with l (get_or l 3 0) held
locator_if None l = locator_with l 0 Held.Bytes

abbrev pub locator_from : List ℕ → Locator
locator_from l = locator_if (held_from (get_or l 4 0) (get_or l 5 0)) l

-- ---- the record of a field: its locator, its types by their codes, whether it is generated and whether guarded, and where in the sheet its name and the
-- bytes of its default stand

-- how many bytes a default states
abbrev pub default_count : DefaultVal → ℕ
default_count (DefaultVal.Num n) = 0
default_count (DefaultVal.Bool flag) = 0
default_count (DefaultVal.Bytes span) = span.len

-- the first of so many bytes that block i states; 0 where it states none
abbrev pub default_begins : ℕ → ℕ → ℕ
default_begins i count = cond (eqb count 0) 0 (block_size * i + stated_bytes_at)

-- of the field with this locator and this record, whose name has so many bytes
unfoldable pub record_numbers : Locator → Field → ℕ → List ℕ
record_numbers p f name =
    locator_numbers p
    ++ (type_code f.repr ∷ arg_code f.arg ∷ cond f.generate 1 0 ∷ cond (write_guard f) 1 0
    ∷ (block_size * p.index + name_begins) ∷ name
    ∷ default_begins p.index (default_count f.default) ∷ default_count f.default ∷ [])

-- of a sheet's field, by its locator
abbrev pub field_numbers : List ℕ → Locator → List ℕ
field_numbers s p = record_numbers p (field_at s p.index) (length (name_at s p.index))

-- of all its fields; there is room for 64
abbrev pub field_rows : List ℕ → List (List ℕ)
field_rows s = rows (zeros 14) 64 (λ i. field_numbers s (locator_of s i)) (field_count s)

abbrev pub no_fields : List (List ℕ)
no_fields = replicate 64 (zeros 14)

-- the index of the field with a name; where there is none, the first that no field has
abbrev pub index_or : ℕ → Option ℕ → ℕ
index_or n (Some i) = i
index_or n None = n

abbrev pub index_named : List ℕ → List ℕ → ℕ
index_named s name = index_or (field_count s) (field_named s name)

-- ---- what is read: a number itself; of bytes the index of the first, and how many they are

abbrev pub value_numbers : Value → List ℕ
value_numbers (number v) = v ∷ []
value_numbers (bytes l) = 0 ∷ []

abbrev pub span_numbers : Locator → List ℕ
span_numbers p = first_bit p / 8 ∷ locator_width p / 8 ∷ []

-- ---- a length slot: what it holds, its two numbers, the index of its field, and the length of the field's largest value; 0 for what it lacks

-- 0 undefined; 1 x; 2 x + a; 3 x * m; 4 (x + a) * m; 5 x * m + a, as a block states them; 6 no block gives the slot
abbrev pub expr_numbers : UsableAlgExpr → List ℕ
expr_numbers e = form_number e ∷ first_in e ∷ second_in e ∷ []

abbrev pub form_numbers : LengthField → List ℕ
form_numbers LengthField.Absent = 6 ∷ 0 ∷ 0 ∷ []
form_numbers LengthField.Undefined = 0 ∷ 0 ∷ 0 ∷ []
form_numbers (LengthField.Expr e) = expr_numbers e

-- the field of the expression in block `at`
abbrev pub slot_field_number : List ℕ → ℕ → LengthField → ℕ
slot_field_number s at LengthField.Absent = 0
slot_field_number s at LengthField.Undefined = 0
slot_field_number s at (LengthField.Expr e) = or_zero (field_named s (name_at s at))

unfoldable pub slot_numbers : List ℕ → ℕ → List ℕ
slot_numbers s slot =
    let held = length_field s slot in
    form_numbers held ++ (slot_field_number s (or_zero (block_of_slot s slot)) held ∷ or_zero (largest_length s slot) ∷ [])

-- all three
abbrev pub length_rows : List ℕ → List (List ℕ)
length_rows s = slot_numbers s 0 ∷ slot_numbers s 1 ∷ slot_numbers s 2 ∷ []

abbrev pub no_lengths : List (List ℕ)
no_lengths = replicate 3 (zeros 5)

-- ---- a condition, in pairs: the index of its field and how many ranges it has; then the first and the last number of each. There is room for 24

abbrev pub range_pair : Option (ℕ × ℕ) → List ℕ
range_pair (Some (first, last)) = first ∷ last ∷ []
range_pair None = 0 ∷ 0 ∷ []

abbrev pub cond_pair : List ℕ → CondEntry → ℕ → List ℕ
cond_pair s e zero = e.field ∷ e.ranges ∷ []
cond_pair s e (suc j) = range_pair (range_numbers s e.block j)

unfoldable pub entry_pairs : List ℕ → CondEntry → List (List ℕ)
entry_pairs s e = rows (zeros 2) 25 (cond_pair s e) (1 + e.ranges)

abbrev pub no_pairs : List (List ℕ)
no_pairs = replicate 25 (zeros 2)

abbrev pub pairs_if : List ℕ → Option CondEntry → List (List ℕ)
pairs_if s (Some e) = entry_pairs s e
pairs_if s None = no_pairs

-- of all conditions; there is room for 8
abbrev pub cond_rows : List ℕ → List (List (List ℕ))
cond_rows s = rows no_pairs 8 (λ k. pairs_if s (cond_entry s k)) (cond_count s)

abbrev pub no_conds : List (List (List ℕ))
no_conds = replicate 8 no_pairs

-- ---- forward and back by the number of a form and its two numbers, the first three of a length. Only numbers that are told of a form are taken for it

abbrev pub form_if : ℕ → ℕ → Option UsableAlgExpr → Option UsableAlgExpr
form_if first second (Some e) = cond (eqb (first_in e) first && eqb (second_in e) second) (Some e) None
form_if first second None = None

unfoldable pub form_from : List ℕ → Option UsableAlgExpr
form_from l = form_if (get_or l 1 0) (get_or l 2 0) (form_of (get_or l 0 0) (get_or l 1 0) (get_or l 2 0))

abbrev pub by_form : (UsableAlgExpr → ℕ → Option ℕ) → Option UsableAlgExpr → ℕ → Option ℕ
by_form work (Some e) x = work e x
by_form work None x = None

abbrev pub forward_by : List ℕ → ℕ → Option ℕ
forward_by l x = by_form forward (form_from l) x

abbrev pub back_by : List ℕ → ℕ → Option ℕ
back_by l y = by_form back (form_from l) y
