-- Length 13 is never given to a sheet that passes step 2: `never-13`. A default is at most the largest value of its field, and a length never falls as its
-- value rises; so where length 8 has passed, the default has its length. The rest is found by the laws of checks in order. Assumes nothing.
use mathlib.Core.Path.{◌≡◌, refl}
use mathlib.Core.Bool.{Bool, true, false, cond, and-false}
use mathlib.Core.List.{List}
use Rattle.std.specs.Prelude.{Option, None, Some}
use Prim.Native.Nat.{ℕ, zero, suc, ◌-◌, ◌^◌}
use native.Mathlib.Omega.{arith}
use lib.Dec.{eqb}
use Rattle.answer.specs.declared.Group.{Group}
use Rattle.answer.specs.Paper.{gives, refused, Check, accepted, ◌and_then◌, first}
use Rattle.answer.proofs.Chains.{both_is, refuse-is}
use Rattle.answer.proofs.Tests.{clash}
use Rattle.answer.specs.Walk.{is_some}
use Rattle.answer.proofs.Walk.{where_found}
use Rattle.sheet.specs.Blocks.{field_count}
use Rattle.field.specs.declared.DefaultVal.{DefaultVal}
use Rattle.field.specs.declared.Field.{Field}
use Rattle.field.specs.Sound.{Sound, width_of}
use Rattle.field_blocks.specs.Step.{fields_check, field_at}
use Rattle.field_blocks.proofs.SoundFields.{field-sound}
use Rattle.header.specs.Names.{name_at, field_named}
use Rattle.expr.specs.declared.UsableAlgExpr.{UsableAlgExpr}
use Rattle.expr.specs.Forms.{◌then◌, forward}
use Rattle.expr.proofs.Growth.{forward-grows}
use Rattle.slots.specs.declared.LengthField.{LengthField}
use Rattle.length.proofs.LengthsAre.{arg_is, largest-is}
use Rattle.length.specs.Named.{field_here}
use Rattle.length.specs.Step.{largest, number_default, of_default, arg_not_the_repr, length_field_fault, length_fault, expr_fault, held_fault, length_check}

-- ---- the default's length

-- where there is a largest length there is the default's
default-length : (e : UsableAlgExpr) (f : Field) → Sound f → arg_not_the_repr f.repr f.arg ≡ false → (most : ℕ) → largest e f ≡ Some most → is_some (of_default e f) ≡ true
default-length e f sound good most q = by_kind f.default refl
  where
    by_kind : (d : DefaultVal) → f.default ≡ d → is_some (number_default d then forward e) ≡ true
    by_kind (DefaultVal.Num n) d =
        let top = (largest-is e f most).0 q in
        rw (forward-grows e n (2 ^ width_of f - 1) most (omega (arith, sound.number_fits n d)) top.2).1
    by_kind (DefaultVal.Bool b) d = absurd (sound.no-bool-default b d)
    by_kind (DefaultVal.Bytes span) d = absurd (((arg_is f.repr f.arg).0 good).1 (sound.bytes-field span d))

-- ---- checks that do not refuse with the number 13

data Not13 : Check → Type 0 where
  passes : {v : Unit {0}} → Not13 (gives v)
  stops : {g : Group} {n at : ℕ} → eqb n 13 ≡ false → Not13 (refused g n at)

cond-not : (test : Bool) (x y : Check) → Not13 x → Not13 y → Not13 (cond test x y)
cond-not true x y p q = p
cond-not false x y p q = q

then-not : (x y : Check) → Not13 x → (x ≡ accepted → Not13 y) → Not13 (x and_then y)
then-not (gives _) y p q = q refl
then-not (refused g n at) y p q = p

first-not : (f : ℕ → Check) (n : ℕ) → ((i : ℕ) → Not13 (f i)) → Not13 (first f n)
unfolding first
first-not f zero h = passes
first-not f (suc n) h = then-not (first f n) (f n) (first-not f n h) (λ _. h n)

ruleset chains = (passes, stops, cond-not, then-not, first-not)

-- ---- step 4

-- of the lengths: where there is a largest one there is the default's
length-not : (slot : ℕ) (most usual : Option ℕ) (header at : ℕ) → ((n : ℕ) → most ≡ Some n → is_some usual ≡ true) → Not13 (length_fault slot most usual header at)
unfolding length_fault
length-not slot (Some n) usual header at has = simp (has n refl, and-false) (search chains depth 12)
length-not slot None usual header at has = stops refl

module _ (s : List ℕ) (ok : fields_check s ≡ accepted) (header slot : ℕ) where
  expr-not : (at : ℕ) (e : UsableAlgExpr) (found : Option ℕ) → field_named s (name_at s at) ≡ found → Not13 (expr_fault header slot at e (field_here s found))
  unfolding length_field_fault
  expr-not at e None q = stops refl
  expr-not at e (Some k) q =
      let f = field_at s k in
      let sound = field-sound s ok k (where_found _ (field_count s) k q).0 in
      then-not (length_field_fault slot f at) _ (search chains depth 12)
      (λ passed. length-not slot _ _ header at (default-length e f sound (simp (both_is, refuse-is) at passed).1.1.0))

  held-not : (at : ℕ) (held : LengthField) → Not13 (held_fault s header slot at held)
  held-not at LengthField.Absent = passes
  held-not at LengthField.Undefined = passes
  held-not at (LengthField.Expr e) = expr-not at e (field_named s (name_at s at)) refl

pub never-13 : (s : List ℕ) → fields_check s ≡ accepted → (header at : ℕ) → length_check s header ≡ refused Group.Length 13 at → ⊥
unfolding length_check
never-13 s ok header at e = never (rw e at step)
  where
    step : Not13 (length_check s header)
    step = search (chains, held-not s ok) depth 12

    never : Not13 (refused Group.Length 13 at) → ⊥
    never (stops e) = clash e
