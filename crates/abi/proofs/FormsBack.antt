-- Lengths told in numbers, and their forms back: the three that are told of a form are taken for it, and no others are (`form-back`, `told-form`). Assumes nothing.
use mathlib.Core.Path.{◌≡◌, refl, sym, ap}
use mathlib.Core.Bool.{Bool, true, false, cond, ◌&&◌}
use mathlib.Core.List.{List, [], ◌∷◌}
use Rattle.std.specs.Prelude.{Option, None, Some}
use Rattle.std.proofs.lemmas.Option.{same_Some}
use Prim.Native.Nat.{ℕ, ◌^◌, ◌<◌}
use lib.Dec.{eqb}
use borrow.Author.Tests.{eqb-true, eq-eqb}
use Rattle.answer.specs.Walk.{is_some}
use Rattle.answer.proofs.Tests.{clash, both_hold}
use Rattle.expr.specs.declared.UsableAlgExpr.{UsableAlgExpr}
use Rattle.expr.specs.Forms.{Back, back, form_number, first_in, second_in, form_of}
use Rattle.expr.proofs.ByNumber as by_number
use Rattle.expr.proofs.WayBack.{back_is, back-only}
use Rattle.abi.specs.Numbers.{expr_numbers, form_if, form_from}

-- the way back is worked out
pub back-same : (e : UsableAlgExpr) (y : ℕ) {r : Option ℕ} → y < 2 ^ 64 → Back e y r → r ≡ back e y
back-same e y {r} h exact = back-only e y r (back e y) exact (back_is e y h)

-- ---- the form of three numbers

-- the three that are told of a form are taken for it
pub form-back : (e : UsableAlgExpr) → form_from (expr_numbers e) ≡ Some e
unfolding form_from
form-back e = rw (by_number.form-back e, eq-eqb (first_in e) (first_in e) refl, eq-eqb (second_in e) (second_in e) refl)

-- and three that are taken for a form are what is told of it
number_of : (n first second : ℕ) {e : UsableAlgExpr} → form_of n first second ≡ Some e → form_number e ≡ n
unfolding form_of
number_of n first second {e} = by_code (eqb n 1) (eqb n 2) (eqb n 3) (eqb n 4) (eqb n 5) refl refl refl refl refl
  where
    form-as : {k : UsableAlgExpr} → Some k ≡ Some e → form_number k ≡ n → form_number e ≡ n
    form-as {k} same is = rw (same_Some k e same) at is

    by_code : (one two three four five : Bool) → eqb n 1 ≡ one → eqb n 2 ≡ two → eqb n 3 ≡ three → eqb n 4 ≡ four → eqb n 5 ≡ five
        → cond one (Some UsableAlgExpr.IdentOnly) (cond two (Some (UsableAlgExpr.SimpleAdd first)) (cond three (Some (UsableAlgExpr.SimpleMult first))
        (cond four (Some (UsableAlgExpr.AddMult first second)) (cond five (Some (UsableAlgExpr.MultAdd first second)) None)))) ≡ Some e → form_number e ≡ n
    by_code true two three four five o w t f v same = form-as same (sym (eqb-true n 1 o))
    by_code false true three four five o w t f v same = form-as same (sym (eqb-true n 2 w))
    by_code false false true four five o w t f v same = form-as same (sym (eqb-true n 3 t))
    by_code false false false true five o w t f v same = form-as same (sym (eqb-true n 4 f))
    by_code false false false false true o w t f v same = form-as same (sym (eqb-true n 5 v))
    by_code false false false false false o w t f v same = clash (ap is_some (sym same))

pub told-form : (n first second : ℕ) (rest : List ℕ) {e : UsableAlgExpr} → form_from (n ∷ first ∷ second ∷ rest) ≡ Some e → (n ∷ first ∷ second ∷ []) ≡ expr_numbers e
unfolding form_from
told-form n first second rest {e} = by_form (form_of n first second) refl
  where
    if-own : (k : UsableAlgExpr) (own : Bool) → form_of n first second ≡ Some k → (eqb (first_in k) first && eqb (second_in k) second) ≡ own → cond own (Some k) None ≡ Some e → (n ∷ first ∷ second ∷ []) ≡ expr_numbers e
    if-own k true is t same =
        let both = both_hold (eqb (first_in k) first) (eqb (second_in k) second) t in
        rw (← (same_Some k e same), number_of n first second is, eqb-true (first_in k) first both.0, eqb-true (second_in k) second both.1)
    if-own k false is t same = clash (ap is_some (sym same))

    by_form : (f : Option UsableAlgExpr) → form_of n first second ≡ f → form_if first second f ≡ Some e → (n ∷ first ∷ second ∷ []) ≡ expr_numbers e
    by_form (Some k) is same = if-own k (eqb (first_in k) first && eqb (second_in k) second) is refl same
    by_form None is same = clash (ap is_some (sym same))
