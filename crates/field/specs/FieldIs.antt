-- What exactly step 2 accepts of a field, said of its items and not of the tests. Assumes nothing.
use Rattle.std.specs.Prelude.{◌≡◌, Bool, false, ◌⊎◌, ℕ, ◌/◌, ◌%◌, ◌^◌, ◌≤◌, ◌<◌, Option, Some, None}
use Rattle.number.specs.Numbers.{max_bits}
use Rattle.types.specs.declared.BuiltinTypes.{BuiltinTypes}
use Rattle.types.specs.declared.Arg.{Arg}
use Rattle.field.specs.declared.Span.{Span}
use Rattle.field.specs.declared.DefaultVal.{DefaultVal}
use Rattle.field.specs.Fields.{infer_repr, repr_of, arg_of}

-- a repr: absent, the inferred one, or a byte slice of whole bytes over 8 bits
abbrev pub ReprIs : ℕ → Option BuiltinTypes → Type 0
ReprIs bits None = Unit {0}
ReprIs bits (Some t) = (t ≡ infer_repr bits) ⊎ ((t ≡ BuiltinTypes.ByteSlice) × (8 < bits) × (bits % 8 ≡ 0))

-- an arg: absent, the repr, bool on 1 bit, or code
abbrev pub ArgIs : ℕ → BuiltinTypes → Option Arg → Type 0
ArgIs bits repr None = Unit {0}
ArgIs bits repr (Some (Arg.BuiltinTypes t)) = (t ≡ repr) ⊎ ((t ≡ BuiltinTypes.Bool) × (bits ≡ 1))
ArgIs bits repr (Some Arg.Code) = Unit {0}

abbrev pub BoolArg : Arg → Type 0
BoolArg arg = arg ≡ Arg.BuiltinTypes BuiltinTypes.Bool

-- a default: absent; for a bool arg the number 0 or 1; else for a byte slice as many bytes as it has, not fixed; else a number within the width
pub data DefaultIs (bits : ℕ) (repr : BuiltinTypes) (arg : Arg) : Option (DefaultVal × Bool) → Type 0 where
  absent : DefaultIs bits repr arg None
  for-bool : {n : ℕ} {fixed : Bool} → BoolArg arg → n ≤ 1 → DefaultIs bits repr arg (Some (DefaultVal.Num n, fixed))
  for-slice : {s : Span} → (BoolArg arg → ⊥) → repr ≡ BuiltinTypes.ByteSlice → s.len ≡ bits / 8 → DefaultIs bits repr arg (Some (DefaultVal.Bytes s, false))
  for-number : {n : ℕ} {fixed : Bool} → (BoolArg arg → ⊥) → (repr ≡ BuiltinTypes.ByteSlice → ⊥) → n < 2 ^ bits → DefaultIs bits repr arg (Some (DefaultVal.Num n, fixed))

-- the items of a field; gen is any
pub record FieldIs (bits : ℕ) (repr : Option BuiltinTypes) (arg : Option Arg) (default : Option (DefaultVal × Bool)) : Type 0 where
  -- 1 to 33,554,424 bits, and whole bytes where they are over 64
  pub some_bits : 1 ≤ bits
  pub most-bits : bits ≤ max_bits
  pub wide-whole : 64 < bits → bits % 8 ≡ 0
  pub repr-is : ReprIs bits repr
  pub arg_is : ArgIs bits (repr_of bits repr) arg
  pub default-is : DefaultIs bits (repr_of bits repr) (arg_of (repr_of bits repr) arg) default
