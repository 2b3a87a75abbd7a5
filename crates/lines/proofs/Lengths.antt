-- How long the lines are, with names of at most 64 bytes and numbers below 2 ^ 64. Assumes nothing.
use mathlib.Core.Path.{◌≡◌, refl}
use mathlib.Core.Bool.{Bool, true, false, cond}
use mathlib.Core.List.{List, [], ◌∷◌}
use Rattle.std.specs.Prelude.{Option, None, Some}
use Prim.Native.Nat.{ℕ, ◌+◌, ◌*◌, ◌/◌, ◌%◌, ◌^◌, ◌<◌, ◌≤◌}
use native.Mathlib.Omega.{arith}
use lib.Dec.{eqb}
use lib.ListN.{length}
use Rattle.text.specs.Text.{spaced}
use Rattle.text.proofs.Lengths.{u64-length, hex-length, no-words-length, spaced-length, line-length}
use Rattle.answer.specs.declared.Group.{Group}
use Rattle.types.specs.declared.BuiltinTypes.{BuiltinTypes}
use Rattle.types.specs.Types.{type_name}
use Rattle.field.specs.declared.Field.{Field}
use Rattle.field.specs.Sound.{width_of}
use Rattle.field.specs.Fields.{write_guard}
use Rattle.expr.specs.declared.UsableAlgExpr.{UsableAlgExpr}
use Rattle.slots.specs.declared.LengthField.{LengthField}
use Rattle.lines.specs.Lines.{group_name, refusal_line, header_line, field_line, hex_word, template_line, slot_name, undefined_line, worked_line, length_line, range_words}
use Rattle.octets.specs.Ascii.{ascii}

ruleset sizes = (line-length, spaced-length, no-words-length)

-- ---- words

group-length : (g : Group) → length (group_name g) ≤ 8
group-length Group.Number = omega arith
group-length Group.Type = omega arith
group-length Group.Sheet = omega arith
group-length Group.Field = omega arith
group-length Group.Header = omega arith
group-length Group.Length = omega arith
group-length Group.Cond = omega arith
group-length Group.Position = omega arith
group-length Group.Bound = omega arith
group-length Group.Access = omega arith
group-length Group.Room = omega arith

type-length : (t : BuiltinTypes) → length (type_name t) ≤ 5
type-length BuiltinTypes.U8 = omega arith
type-length BuiltinTypes.U16 = omega arith
type-length BuiltinTypes.U32 = omega arith
type-length BuiltinTypes.U64 = omega arith
type-length BuiltinTypes.ByteSlice = omega arith
type-length BuiltinTypes.Bool = omega arith

-- 1 where a write is guarded, else 0
flag_small : (t : Bool) → cond t 1 0 < 2 ^ 64
flag_small true = omega arith
flag_small false = omega arith

slot-length : (slot : ℕ) → length (slot_name slot) ≤ 11
slot-length slot = by_tests (eqb slot 0) (eqb slot 1)
  where
    by_tests : (a b : Bool) → length (cond a (ascii "header_len") (cond b (ascii "payload_len") (ascii "packet_len"))) ≤ 11
    by_tests true b = omega arith
    by_tests false true = omega arith
    by_tests false false = omega arith

hex-word-length : (bytes : List ℕ) → length (spaced (hex_word bytes)) ≤ 1 + 2 * length bytes
hex-word-length [] = omega (arith, no-words-length)
hex-word-length (x ∷ t) = simp sizes (omega (arith, hex-length (x ∷ t)))

-- ---- lines

pub refusal-length : (g : Group) (n at : ℕ) → n < 2 ^ 64 → at < 2 ^ 64 → length (refusal_line g n at) ≤ 59
unfolding refusal_line
refusal-length g n at hn ha = simp sizes (omega (arith, group-length g, u64-length n hn, u64-length at ha))

pub header-length : (bytes : ℕ) → bytes < 2 ^ 64 → length (header_line bytes) ≤ 28
unfolding header_line
header-length bytes h = simp sizes (omega (arith, u64-length bytes h))

pub field-length : (i start : ℕ) (f : Field) (name : List ℕ) → i < 2 ^ 64 → start < 2 ^ 64 → width_of f < 2 ^ 64 → length name ≤ 64
    → length (field_line i start f name) ≤ 182
unfolding field_line
field-length i start f name hi hs hw hn =
    simp sizes
    (omega (
      arith,
      u64-length i hi,
      u64-length (start / 8) (omega arith),
      u64-length (start % 8) (omega arith),
      u64-length (width_of f) hw,
      type-length f.repr,
      u64-length (cond (write_guard f) 1 0) (flag_small (write_guard f)),
    ))

pub template-length : (bytes : List ℕ) → length (template_line bytes) ≤ 10 + 2 * length bytes
unfolding template_line
template-length bytes = simp line-length (omega (arith, hex-word-length bytes))

-- of a slot that holds an expression, whose largest length is known
pub slot-line-length : (slot : ℕ) (name : List ℕ) (largest : Option ℕ) (held : LengthField) → length name ≤ 64
    → ((e : UsableAlgExpr) → held ≡ LengthField.Expr e → (n : ℕ) × (largest ≡ Some n) × (n < 2 ^ 64)) → length (length_line slot name largest held) ≤ 105
unfolding undefined_line worked_line
slot-line-length slot name largest LengthField.Absent hn given = omega arith
slot-line-length slot name largest LengthField.Undefined hn given = simp sizes (omega (arith, slot-length slot))
slot-line-length slot name largest (LengthField.Expr e) hn given =
    let most = given e refl in
    simp (most.1, sizes) (omega (arith, slot-length slot, u64-length most.0 most.2))

-- the words of a range, where it holds a number
abbrev pub Small : Option (ℕ × ℕ) → Type 0
Small (Some r) = (r.0 < 2 ^ 64) × (r.1 < 2 ^ 64)
Small None = Unit {0}

pub range_length : (range : Option (ℕ × ℕ)) → Small range → length (spaced (range_words range)) ≤ 42
range_length (Some r) small = simp sizes (omega (arith, u64-length r.0 small.0, u64-length r.1 small.1))
range_length None small = omega (arith, no-words-length)
