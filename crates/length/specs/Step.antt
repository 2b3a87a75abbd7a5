-- Step 4: whether the lengths of a sheet can be worked out of its fields. Assumes nothing.
use Rattle.std.specs.Prelude.{Bool, true, false, not, ◌&&◌, ◌||◌, List, ℕ, ltb, eqb, Option, None, Some}
use Rattle.answer.specs.declared.Group.{Group}
use Rattle.answer.specs.Paper.{Check, accepted, refused, refuse, ◌and_then◌, first}
use Rattle.answer.specs.Walk.{is_some, or_zero}
use Rattle.number.specs.Numbers.{max_bytes, max_value}
use Rattle.sheet.specs.Blocks.{block_count, block_at}
use Rattle.types.specs.declared.BuiltinTypes.{BuiltinTypes}
use Rattle.types.specs.declared.Arg.{Arg}
use Rattle.types.specs.Types.{same_type, is_slice}
use Rattle.field.specs.declared.DefaultVal.{DefaultVal}
use Rattle.field.specs.declared.Field.{Field}
use Rattle.field.specs.Sound.{width_of}
use Rattle.expr.specs.declared.UsableAlgExpr.{UsableAlgExpr}
use Rattle.expr.specs.Forms.{◌then◌, forward}
use Rattle.slots.specs.declared.LengthField.{LengthField}
use Rattle.slots.specs.Slots.{expr_in, block_of_slot, length_field, is_tree, no_form}
use Rattle.length.specs.Named.{field_of_block}

-- ---- the lengths of a field: of its largest value, and of its default

abbrev pub largest : UsableAlgExpr → Field → Option ℕ
largest e f = max_value (width_of f) then forward e

abbrev pub number_default : DefaultVal → Option ℕ
number_default (DefaultVal.Num n) = Some n
number_default (DefaultVal.Bool b) = None
number_default (DefaultVal.Bytes s) = None

abbrev pub of_default : UsableAlgExpr → Field → Option ℕ
of_default e f = number_default f.default then forward e

-- ---- the tests of a field

-- length 6: an arg that is not a type equal to the repr, or a byte slice
abbrev pub arg_not_the_repr : BuiltinTypes → Arg → Bool
arg_not_the_repr repr (Arg.BuiltinTypes t) = not (same_type t repr) || is_slice repr
arg_not_the_repr repr Arg.Code = true

-- a length that is over or under a number of bytes; one that cannot be worked out is neither
abbrev pub is_over : Option ℕ → ℕ → Bool
is_over (Some n) most = ltb most n
is_over None most = false

abbrev pub is_under : Option ℕ → ℕ → Bool
is_under (Some n) least = ltb n least
is_under None least = false

-- length 4, over 64 bits; 5, gen true; 6; 7, a fixed default, for slots 1 and 2
unfoldable pub length_field_fault : ℕ → Field → ℕ → Check
length_field_fault slot f at =
    refuse (ltb 64 (width_of f)) Group.Length 4 at
    and_then refuse f.generate Group.Length 5 at
    and_then refuse (arg_not_the_repr f.repr f.arg) Group.Length 6 at
    and_then refuse (f.fixed && not (eqb slot 0)) Group.Length 7 at

-- length 8, the largest value's length passes 2^64 - 1; 9, it is over 4,194,303. For slot 0 then 13, the default's length cannot be worked out; 10, it
-- is less than the header's
unfoldable pub length_fault : ℕ → Option ℕ → Option ℕ → ℕ → ℕ → Check
length_fault slot most usual header at =
    refuse (not (is_some most)) Group.Length 8 at
    and_then refuse (is_over most max_bytes) Group.Length 9 at
    and_then refuse (eqb slot 0 && not (is_some usual)) Group.Length 13 at
    and_then refuse (eqb slot 0 && is_under usual header) Group.Length 10 at

-- ---- a slot

-- of an expression in block `at`: length 3, no such field; then the tests of the field
abbrev pub expr_fault : ℕ → ℕ → ℕ → UsableAlgExpr → Option Field → Check
expr_fault header slot at e None = refused Group.Length 3 at
expr_fault header slot at e (Some f) = length_field_fault slot f at and_then length_fault slot (largest e f) (of_default e f) header at

-- a slot that holds no expression leaves the check at once
abbrev pub held_fault : List ℕ → ℕ → ℕ → ℕ → LengthField → Check
held_fault s header slot at LengthField.Absent = accepted
held_fault s header slot at LengthField.Undefined = accepted
held_fault s header slot at (LengthField.Expr e) = expr_fault header slot at e (field_of_block s at)

abbrev pub slot_check : List ℕ → ℕ → ℕ → Check
slot_check s header slot = held_fault s header slot (or_zero (block_of_slot s slot)) (length_field s slot)

-- ---- all of them

-- length 12, by L block: a tree that is none of the five forms
abbrev pub tree_fault : List ℕ → ℕ → Check
tree_fault s i = refuse (is_tree (block_at s i) && no_form (expr_in (block_at s i))) Group.Length 12 i

-- length 1, with the block count as its place: payload and packet both given
abbrev pub both_given : List ℕ → Bool
both_given s = is_some (block_of_slot s 1) && is_some (block_of_slot s 2)

-- then slot 0, then the other; of the header only its length in bytes is asked
unfoldable pub length_check : List ℕ → ℕ → Check
length_check s header =
    first (tree_fault s) (block_count s)
    and_then refuse (both_given s) Group.Length 1 (block_count s)
    and_then slot_check s header 0
    and_then slot_check s header 1
    and_then slot_check s header 2

-- ---- the lengths of a slot, where it holds an expression whose field there is

abbrev pub with_field : UsableAlgExpr → Option Field → Option (UsableAlgExpr × Field)
with_field e (Some f) = Some (e, f)
with_field e None = None

abbrev pub used_by : List ℕ → ℕ → LengthField → Option (UsableAlgExpr × Field)
used_by s at LengthField.Absent = None
used_by s at LengthField.Undefined = None
used_by s at (LengthField.Expr e) = with_field e (field_of_block s at)

abbrev pub used : List ℕ → ℕ → Option (UsableAlgExpr × Field)
used s slot = used_by s (or_zero (block_of_slot s slot)) (length_field s slot)

abbrev pub worked : (UsableAlgExpr → Field → Option ℕ) → Option (UsableAlgExpr × Field) → Option ℕ
worked length (Some u) = length u.0 u.1
worked length None = None

abbrev pub largest_length : List ℕ → ℕ → Option ℕ
largest_length s slot = worked largest (used s slot)

abbrev pub default_length : List ℕ → ℕ → Option ℕ
default_length s slot = worked of_default (used s slot)
