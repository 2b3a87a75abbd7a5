-- Every field that step 2 accepts is sound: `sound`. It follows from what its items are (`field_is`): the kind of its repr, and the case of its default.
-- Assumes nothing.
use Rattle.std.specs.Prelude.{Option, Some, None}
use mathlib.Core.Path.{◌≡◌, refl, ap}
use mathlib.Core.Bool.{Bool, true, false, cond}
use mathlib.Core.Logic.{◌⊎◌, inl, inr}
use Prim.Native.Nat.{ℕ, ◌/◌, ◌^◌, ◌<◌}
use native.Mathlib.Omega.{arith}
use lib.Pow.{pow_pos}
use Rattle.answer.specs.Paper.{accepted}
use Rattle.types.specs.declared.BuiltinTypes.{BuiltinTypes}
use Rattle.types.specs.declared.Arg.{Arg}
use Rattle.types.specs.Types.{type_code, is_slice}
use Rattle.types.proofs.CodesAndNames.{slice-holds-is, slice_is}
use Rattle.field.specs.declared.DefaultVal.{DefaultVal}
use Rattle.field.specs.Fields.{repr_of, arg_of, no_bytes, infer_default, default_of, fixed_of, field_check, field_of}
use Rattle.field.specs.FieldIs.{ArgIs, BoolArg, DefaultIs, absent, for-bool, for-slice, for-number}
use Rattle.field.specs.Sound.{Sound}
use Rattle.field.proofs.FieldIs.{Kind, kind, field_is}

-- no repr is bool, and so what is handed over as a bool is 1 bit
never-bool : {bits : ℕ} {t : BuiltinTypes} → Kind bits t → t ≡ BuiltinTypes.Bool → ⊥
never-bool k e = omega (arith, k.code, ap type_code e)

one_bit : {bits : ℕ} {t : BuiltinTypes} → Kind bits t → (arg : Option Arg) → ArgIs bits t arg → BoolArg (arg_of t arg) → bits ≡ 1
one_bit k None a b = absurd (never-bool k cc)
one_bit k (Some (Arg.BuiltinTypes u)) (inl e) b = absurd (never-bool k cc)
one_bit k (Some (Arg.BuiltinTypes u)) (inr e) b = e.1
one_bit k (Some Arg.Code) a b = cc

-- what is known of a default, by its case
abbrev Known : ℕ → BuiltinTypes → Bool → DefaultVal → Type 0
Known bits t fixed (DefaultVal.Num n) = (n < 2 ^ bits) × (t ≡ BuiltinTypes.ByteSlice → ⊥)
Known bits t fixed (DefaultVal.Bool b) = ⊥
Known bits t fixed (DefaultVal.Bytes s) = (t ≡ BuiltinTypes.ByteSlice) × ((s.len ≡ bits / 8) ⊎ (s.len ≡ 0)) × (fixed ≡ false)

-- an absent one is 0, or of a byte slice no bytes
none-known : (bits : ℕ) (t : BuiltinTypes) → Known bits t false (infer_default t)
none-known bits t = tested (is_slice t) refl
  where
    tested : (s : Bool) → is_slice t ≡ s → Known bits t false (cond s (DefaultVal.Bytes no_bytes) (DefaultVal.Num 0))
    tested true e = ((slice-holds-is t).0 e, inr refl, refl)
    tested false e = (pow_pos bits, (slice_is t).0 e)

known : (bits : ℕ) (t : BuiltinTypes) → Kind bits t → (arg : Option Arg) → ArgIs bits t arg
    → (default : Option (DefaultVal × Bool)) → DefaultIs bits t (arg_of t arg) default → Known bits t (fixed_of default) (default_of t default)
known bits t k arg a default absent = none-known bits t
known bits t k arg a default (for-bool e few) = let one = one_bit k arg a e in (rw one (omega arith), λ s. omega (arith, (k.whole s).1))
known bits t k arg a default (for-slice other e size) = (e, inl size, refl)
known bits t k arg a default (for-number other number within) = (within, number)

pub sound : (place bits : ℕ) (repr : Option BuiltinTypes) (arg : Option Arg) (default : Option (DefaultVal × Bool)) (gen : Option Bool)
    → field_check place bits repr arg default ≡ accepted → Sound (field_of bits repr arg default gen)
sound place bits repr arg default gen e =
    let f = (field_is place bits repr arg default).0 e in
    let t = repr_of bits repr in
    let k = kind bits repr f.wide-whole f.repr-is in
    let d = known bits t k arg f.arg_is default f.default-is in
    record {
      some_bits = f.some_bits;
      most-bits = f.most-bits;
      wide-is-slice = k.wide;
      slice-whole = λ s. (k.whole s).0;
      slice-bits = λ s. (k.whole s).1;
      never-bool = never-bool k;
      number_fits = λ n q. (rw q at d).0;
      number-field = λ n q. (rw q at d).1;
      bytes-field = λ s q. (rw q at d).0;
      bytes_count = λ s q. (rw q at d).1;
      bytes-free = λ s q. (rw q at d).2;
      no-bool-default = λ b q. rw q at d;
    }
