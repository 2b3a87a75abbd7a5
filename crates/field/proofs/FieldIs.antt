-- Step 2 accepts exactly the items of `FieldIs`: `field_is`; and the field that it gives is the one resolved from them: `field-given`. Each test is said exactly,
-- by the laws of tests; that of the default by the kind of field that the tests before it leave. Assumes nothing.
use Rattle.std.specs.Prelude.{Option, Some, None}
use mathlib.Core.Path.{◌≡◌, refl, sym, ap, ◌∙◌}
use mathlib.Core.Bool.{Bool, true, false, cond, not, ◌&&◌, true≢false}
use mathlib.Core.Logic.Iff
use mathlib.Core.Logic.{◌⊎◌, inl, inr, ⊎_elim, ◌↔◌}
use Prim.Native.Nat.{ℕ, ◌-◌, ◌/◌, ◌%◌, ◌^◌, ◌≤◌, ◌<◌}
use native.Mathlib.Decide.{dec_le}
use native.Mathlib.Omega.{arith}
use lib.Dec.{ltb, eqb, lit≤}
use borrow.Author.Tests.{eq-eqb, le-ltb}
use Rattle.answer.specs.declared.Group.{Group}
use Rattle.answer.specs.Paper.{gives, accepted, refuse}
use Rattle.answer.proofs.Chains.{both_is, refuse-is, never-given, given}
use Rattle.answer.proofs.Tests.{never_both, one_holds, fails-is, and_is, unless-is, neither-is, not_is, eqb_is, ltb-is, ltb-is-not}
use Rattle.number.specs.Numbers.{max_bits}
use Rattle.number.proofs.Limits.{max-is, within-max}
use Rattle.types.specs.declared.BuiltinTypes.{BuiltinTypes}
use Rattle.types.specs.declared.Arg.{Arg}
use Rattle.types.specs.Types.{type_code, same_type, is_slice, is_bool_type}
use Rattle.types.proofs.CodesAndNames.{same-type, same-is, slice-holds-is, slice_is}
use Rattle.field.specs.declared.DefaultVal.{DefaultVal}
use Rattle.field.specs.declared.Field.{Field}
use Rattle.field.specs.Fields.{infer_repr, repr_of, arg_of, bad_width, bad_repr, bad_arg, is_bool_arg, bad_bool, bad_bytes, bad_number, fixed_bytes, default_check, field_check, field_of, new_field}
use Rattle.field.specs.FieldIs.{ReprIs, ArgIs, BoolArg, DefaultIs, absent, for-bool, for-slice, for-number, FieldIs}
use Rattle.field.proofs.Inferred.{infer-slice, infer-number}

-- ---- field 1

width_is : (bits : ℕ) → (bad_width bits ≡ false) ↔ ((1 ≤ bits) × (bits ≤ max_bits) × (64 < bits → bits % 8 ≡ 0))
width_is bits = simp (neither-is, fails-is (eqb bits 0), unless-is, not_is, eqb_is, ltb-is, ltb-is-not)
    (λ p. (omega arith, p.1, p.0.1), λ p. ((λ z. omega arith, p.2), p.1))

-- ---- field 2 and 3: a type that is allowed in one of two ways

allowed-is : (a b : Bool) {P Q : Type 0} → (a ≡ true) ↔ P → (b ≡ true) ↔ Q → ((not a && not b) ≡ false) ↔ (P ⊎ Q)
allowed-is a b {P} {Q} p q = (λ e. ⊎_elim (λ h. inl (p.0 h)) (λ h. inr (q.0 h)) (one_holds a b e), back)
  where
    back : P ⊎ Q → (not a && not b) ≡ false
    back (inl h) = rw (p.1 h)
    back (inr h) = rw (q.1 h) (never_both (not a) false (λ _ e. true≢false (sym e)))

repr-is : (bits : ℕ) (repr : Option BuiltinTypes) → (bad_repr bits (repr_of bits repr) ≡ false) ↔ ReprIs bits repr
repr-is bits None = (λ _. tt, λ _. rw (eq-eqb (type_code (infer_repr bits)) _ refl))
repr-is bits (Some t) =
    allowed-is (same_type t (infer_repr bits)) (is_slice t && ltb 8 bits && eqb (bits % 8) 0) (same-is t (infer_repr bits))
    (simp (and_is, slice-holds-is, ltb-is, eqb_is) (λ p. (p.0.0, p.0.1, p.1), λ p. ((p.0, p.1), p.2)))

arg_is : (bits : ℕ) (t : BuiltinTypes) (arg : Option Arg) → (bad_arg bits t (arg_of t arg) ≡ false) ↔ ArgIs bits t arg
arg_is bits t None = (λ _. tt, λ _. rw (eq-eqb (type_code t) _ refl))
arg_is bits t (Some (Arg.BuiltinTypes u)) =
    allowed-is (same_type u t) (is_bool_type u && eqb bits 1) (same-is u t) (simp (and_is, same-is, eqb_is) Iff.rfl)
arg_is bits t (Some Arg.Code) = (λ _. tt, λ _. refl)

-- ---- the two kinds of field

-- a byte slice has whole bytes, 2 of them at least; a number has at most 64 bits; and neither is bool, whose code is 6
pub record Kind (bits : ℕ) (t : BuiltinTypes) : Type 0 where
  pub wide : 64 < bits → t ≡ BuiltinTypes.ByteSlice
  pub whole : t ≡ BuiltinTypes.ByteSlice → (bits % 8 ≡ 0) × (16 ≤ bits)
  pub code : type_code t ≤ 5

-- the inferred type is of the one kind or the other; a byte slice by choice is of the first
pub kind : (bits : ℕ) (repr : Option BuiltinTypes) → (64 < bits → bits % 8 ≡ 0) → ReprIs bits repr → Kind bits (repr_of bits repr)
kind bits repr w = by-repr repr
  where
    inferred : Dec (bits ≤ 64) → Kind bits (infer_repr bits)
    inferred (yes h) =
        let n = infer-number bits h in
        record { wide = λ l. absurd (omega arith); whole = λ s. absurd (omega (arith, ap type_code s)); code = omega arith }
    inferred (no h) =
        let s = infer-slice bits (omega arith) in
        record { wide = λ _. s; whole = λ _. (w (omega arith), omega arith); code = rw s (lit≤ tt) }

    by-repr : (repr : Option BuiltinTypes) → ReprIs bits repr → Kind bits (repr_of bits repr)
    by-repr None r = inferred (dec_le bits 64)
    by-repr (Some t) (inl e) = rw e (inferred (dec_le bits 64))
    by-repr (Some t) (inr s) = rw s.0 (record { wide = λ _. refl; whole = λ _. (s.2, omega (arith, s.1, s.2)); code = lit≤ tt })

-- ---- field 4 to 7

bool-arg-is : (a : Arg) → (is_bool_arg a ≡ true) ↔ BoolArg a
bool-arg-is a = (holds a, λ e. ap is_bool_arg e)
  where
    holds : (a : Arg) → is_bool_arg a ≡ true → BoolArg a
    holds (Arg.BuiltinTypes t) e = ap Arg.BuiltinTypes (same-type t BuiltinTypes.Bool e)
    holds Arg.Code e = absurd (true≢false (sym e))

no-bool-is : (a : Arg) → (is_bool_arg a ≡ false) ↔ (BoolArg a → ⊥)
no-bool-is a = (λ p e. true≢false (sym ((bool-arg-is a).1 e) ∙ p), λ never. (fails-is (is_bool_arg a)).1 (λ p. never ((bool-arg-is a).0 p)))

module _ (place bits : ℕ) (t : BuiltinTypes) (a : Arg) (some : 1 ≤ bits) (k : Kind bits t) where
  narrow : (t ≡ BuiltinTypes.ByteSlice → ⊥) → bits ≤ 64
  narrow number = by_width (dec_le bits 64)
    where
      by_width : Dec (bits ≤ 64) → bits ≤ 64
      by_width (yes h) = h
      by_width (no h) = absurd (number (k.wide (omega arith)))

  -- the one test of 4, 5 and 6 that applies leaves one case of the default
  passed_is : (b s : Bool) → is_bool_arg a ≡ b → is_slice t ≡ s → (d : DefaultVal) (fixed : Bool)
      → cond b (refuse (bad_bool d) Group.Field 4 place) (cond s (refuse (bad_bytes bits d) Group.Field 5 place) (refuse (bad_number bits d) Group.Field 6 place)) ≡ accepted
      → fixed_bytes d fixed ≡ false → DefaultIs bits t a (Some (d, fixed))
  passed_is true s p q (DefaultVal.Num n) fixed e f = for-bool ((bool-arg-is a).0 p) (simp (refuse-is, ltb-is-not) at e)
  passed_is true s p q (DefaultVal.Bool b) fixed e f = absurd (never-given refl e)
  passed_is true s p q (DefaultVal.Bytes b) fixed e f = absurd (never-given refl e)
  passed_is false true p q (DefaultVal.Num n) fixed e f = absurd (never-given refl e)
  passed_is false true p q (DefaultVal.Bool b) fixed e f = absurd (never-given refl e)
  passed_is false true p q (DefaultVal.Bytes b) fixed e f = rw f (for-slice ((no-bool-is a).0 p) ((slice-holds-is t).0 q) (simp (refuse-is, not_is, eqb_is) at e))
  passed_is false false p q (DefaultVal.Num n) fixed e f =
      let number = (slice_is t).0 q in
      let most = simp (refuse-is, max-is bits (λ z. omega arith) (narrow number), ltb-is-not) at e in
      for-number ((no-bool-is a).0 p) number ((within-max bits n).1 most)
  passed_is false false p q (DefaultVal.Bool b) fixed e f = absurd (never-given refl e)
  passed_is false false p q (DefaultVal.Bytes b) fixed e f = absurd (never-given refl e)

  passes : (default : Option (DefaultVal × Bool)) → DefaultIs bits t a default → default_check place bits t a default ≡ accepted
  passes default absent = refl
  passes default (for-bool e few) = rw ((bool-arg-is a).1 e, le-ltb 1 _ few)
  passes default (for-slice other e size) = rw ((no-bool-is a).1 other, (slice-holds-is t).1 e, eq-eqb _ (bits / 8) size)
  passes default (for-number other number within) =
      rw ((no-bool-is a).1 other, (slice_is t).1 number, max-is bits (λ z. omega arith) (narrow number), le-ltb (2 ^ bits - 1) _ ((within-max bits _).0 within))

  default-is : (default : Option (DefaultVal × Bool)) → (default_check place bits t a default ≡ accepted) ↔ DefaultIs bits t a default
  default-is default = (known default, passes default)
    where
      known : (default : Option (DefaultVal × Bool)) → default_check place bits t a default ≡ accepted → DefaultIs bits t a default
      known None e = absent
      known (Some (d, fixed)) e = let two = simp (both_is, refuse-is) at e in passed_is (is_bool_arg a) (is_slice t) refl refl d fixed two.0 two.1

-- ---- all of it

module _ (place bits : ℕ) (repr : Option BuiltinTypes) (arg : Option Arg) (default : Option (DefaultVal × Bool)) where
  pub field_is : (field_check place bits repr arg default ≡ accepted) ↔ FieldIs bits repr arg default
  unfolding field_check
  field_is = simp (both_is, refuse-is, width_is, repr-is, arg_is) (
    λ p.
        let k = kind bits repr p.0.2 p.1.0 in
        record {
          some_bits = p.0.0;
          most-bits = p.0.1;
          wide-whole = p.0.2;
          repr-is = p.1.0;
          arg_is = p.1.1.0;
          default-is = (default-is place bits _ _ p.0.0 k default).0 p.1.1.1;
        },
    λ f.
        let k = kind bits repr f.wide-whole f.repr-is in
        ((f.some_bits, f.most-bits, f.wide-whole), (f.repr-is, (f.arg_is, (default-is place bits _ _ f.some_bits k default).1 f.default-is))),
  )

  -- and gives the field that is resolved from them
  pub field-given : (gen : Option Bool) (f : Field) → (new_field place bits repr arg default gen ≡ gives f) ↔ (FieldIs bits repr arg default × (field_of bits repr arg default gen ≡ f))
  field-given gen f = (
    λ e. let two = given (field_check place bits repr arg default) e in (field_is.0 two.0, two.1),
    λ p. rw (field_is.1 p.0, p.1),
  )
