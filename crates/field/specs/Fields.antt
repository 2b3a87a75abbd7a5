-- Step 2 of one field: its items, what is refused, and what an absent item stands for. Assumes nothing.
use Rattle.std.specs.Prelude.{Bool, true, false, cond, not, ◌&&◌, ◌||◌, ℕ, ◌/◌, ◌%◌, leb, ltb, eqb, Option, None, Some}
use Rattle.answer.specs.declared.Group.{Group}
use Rattle.answer.specs.Paper.{Answer, gives, Check, accepted, refuse, ◌and_then◌}
use Rattle.number.specs.Numbers.{max_bits, max_value}
use Rattle.types.specs.declared.BuiltinTypes.{BuiltinTypes}
use Rattle.types.specs.declared.Arg.{Arg}
use Rattle.field.specs.declared.Span.{Span}
use Rattle.field.specs.declared.DefaultVal.{DefaultVal}
use Rattle.field.specs.declared.Field.{Field}
use Rattle.types.specs.Types.{same_type, is_slice, is_bool_type}

-- ---- what an absent item stands for: repr inferred, arg the repr, default zeros, gen true

-- u8 to 8 bits, u16 to 16, u32 to 32, u64 to 64, else byte slice
unfoldable pub infer_repr : ℕ → BuiltinTypes
infer_repr bits =
    cond (leb bits 8) BuiltinTypes.U8
    (cond (leb bits 16) BuiltinTypes.U16
    (cond (leb bits 32) BuiltinTypes.U32
    (cond (leb bits 64) BuiltinTypes.U64 BuiltinTypes.ByteSlice)))

abbrev pub repr_of : ℕ → Option BuiltinTypes → BuiltinTypes
repr_of bits None = infer_repr bits
repr_of bits (Some t) = t

abbrev pub arg_of : BuiltinTypes → Option Arg → Arg
arg_of repr None = Arg.BuiltinTypes repr
arg_of repr (Some a) = a

-- of bytes all are stated or none, and then they are zeros: of an absent default none are stated
abbrev pub no_bytes : Span
no_bytes = record { at = 0; len = 0 }

abbrev pub infer_default : BuiltinTypes → DefaultVal
infer_default repr = cond (is_slice repr) (DefaultVal.Bytes no_bytes) (DefaultVal.Num 0)

abbrev pub default_of : BuiltinTypes → Option (DefaultVal × Bool) → DefaultVal
default_of repr None = infer_default repr
default_of repr (Some (d, fixed)) = d

abbrev pub fixed_of : Option (DefaultVal × Bool) → Bool
fixed_of None = false
fixed_of (Some (d, fixed)) = fixed

abbrev pub gen_of : Option Bool → Bool
gen_of None = true
gen_of (Some g) = g

-- ---- the tests

-- field 1: bits 0, or over 64 and no multiple of 8, or over 33,554,424
abbrev pub bad_width : ℕ → Bool
bad_width bits = eqb bits 0 || (ltb 64 bits && not (eqb (bits % 8) 0)) || ltb max_bits bits

-- field 2: a repr that is neither the inferred one nor a byte slice with bits over 8 and a multiple of 8
abbrev pub bad_repr : ℕ → BuiltinTypes → Bool
bad_repr bits repr = not (same_type repr (infer_repr bits)) && not (is_slice repr && ltb 8 bits && eqb (bits % 8) 0)

-- field 3: an arg that is neither the repr, nor bool on 1 bit, nor code
abbrev pub bad_arg : ℕ → BuiltinTypes → Arg → Bool
bad_arg bits repr (Arg.BuiltinTypes t) = not (same_type t repr) && not (is_bool_type t && eqb bits 1)
bad_arg bits repr Arg.Code = false

abbrev pub is_bool_arg : Arg → Bool
is_bool_arg (Arg.BuiltinTypes t) = is_bool_type t
is_bool_arg Arg.Code = false

-- field 4: a default that is not the number 0 or 1
abbrev pub bad_bool : DefaultVal → Bool
bad_bool (DefaultVal.Num n) = ltb 1 n
bad_bool (DefaultVal.Bool b) = true
bad_bool (DefaultVal.Bytes s) = true

-- field 5: a default that is not bits / 8 bytes
abbrev pub bad_bytes : ℕ → DefaultVal → Bool
bad_bytes bits (DefaultVal.Num n) = true
bad_bytes bits (DefaultVal.Bool b) = true
bad_bytes bits (DefaultVal.Bytes s) = not (eqb s.len (bits / 8))

-- field 6: a default that is not a number within the width
abbrev pub over_largest : ℕ → Option ℕ → Bool
over_largest n (Some most) = ltb most n
over_largest n None = true

abbrev pub bad_number : ℕ → DefaultVal → Bool
bad_number bits (DefaultVal.Num n) = over_largest n (max_value bits)
bad_number bits (DefaultVal.Bool b) = true
bad_number bits (DefaultVal.Bytes s) = true

-- field 7: bytes that are fixed
abbrev pub fixed_bytes : DefaultVal → Bool → Bool
fixed_bytes (DefaultVal.Num n) fixed = false
fixed_bytes (DefaultVal.Bool b) fixed = false
fixed_bytes (DefaultVal.Bytes s) fixed = fixed

-- ---- the tests in order

-- field 4 for a bool arg, 5 for a byte slice, 6 otherwise
abbrev pub value_check : ℕ → ℕ → BuiltinTypes → Arg → DefaultVal → Check
value_check place bits repr arg d =
    cond (is_bool_arg arg) (refuse (bad_bool d) Group.Field 4 place)
    (cond (is_slice repr) (refuse (bad_bytes bits d) Group.Field 5 place)
    (refuse (bad_number bits d) Group.Field 6 place))

-- then field 7. An absent default passes
abbrev pub default_check : ℕ → ℕ → BuiltinTypes → Arg → Option (DefaultVal × Bool) → Check
default_check place bits repr arg None = accepted
default_check place bits repr arg (Some (d, fixed)) =
    value_check place bits repr arg d and_then refuse (fixed_bytes d fixed) Group.Field 7 place

unfoldable pub field_check : ℕ → ℕ → Option BuiltinTypes → Option Arg → Option (DefaultVal × Bool) → Check
field_check place bits repr arg default =
    refuse (bad_width bits) Group.Field 1 place
    and_then refuse (bad_repr bits (repr_of bits repr)) Group.Field 2 place
    and_then refuse (bad_arg bits (repr_of bits repr) (arg_of (repr_of bits repr) arg)) Group.Field 3 place
    and_then default_check place bits (repr_of bits repr) (arg_of (repr_of bits repr) arg) default

-- ---- the field

-- with every item resolved
abbrev pub field_of : ℕ → Option BuiltinTypes → Option Arg → Option (DefaultVal × Bool) → Option Bool → Field
field_of bits repr arg default gen =
    let type = repr_of bits repr in
    record {
      width = record { 0 = bits };
      repr = type;
      arg = arg_of type arg;
      default = default_of type default;
      generate = gen_of gen;
      fixed = fixed_of default;
    }

-- the field of five items, or the refusal
abbrev pub new_field : ℕ → ℕ → Option BuiltinTypes → Option Arg → Option (DefaultVal × Bool) → Option Bool → Answer Field
new_field place bits repr arg default gen = field_check place bits repr arg default and_then gives (field_of bits repr arg default gen)

-- ---- the write guard

-- the repr's byte size; a byte slice's is bits / 8
abbrev pub repr_bytes : ℕ → BuiltinTypes → ℕ
repr_bytes bits BuiltinTypes.U8 = 1
repr_bytes bits BuiltinTypes.U16 = 2
repr_bytes bits BuiltinTypes.U32 = 4
repr_bytes bits BuiltinTypes.U64 = 8
repr_bytes bits BuiltinTypes.ByteSlice = bits / 8
repr_bytes bits BuiltinTypes.Bool = 1

-- fixed, or bits no multiple of 8, or bits / 8 not the repr's byte size
abbrev pub write_guard : Field → Bool
write_guard f = let bits = f.width.0 in f.fixed || not (eqb (bits % 8) 0) || not (eqb (bits / 8) (repr_bytes bits f.repr))
