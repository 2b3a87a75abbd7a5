-- The number of a form and its numbers are taken for the same form: `form-back`. Assumes nothing.
use mathlib.Core.Path.{◌≡◌, refl}
use Rattle.std.specs.Prelude.{Some}
use Rattle.expr.specs.declared.UsableAlgExpr.{UsableAlgExpr}
use Rattle.expr.specs.Forms.{form_number, first_in, second_in, form_of}

pub form-back : (e : UsableAlgExpr) → form_of (form_number e) (first_in e) (second_in e) ≡ Some e
unfolding form_of
form-back UsableAlgExpr.IdentOnly = refl
form-back (UsableAlgExpr.SimpleAdd a) = refl
form-back (UsableAlgExpr.SimpleMult m) = refl
form-back (UsableAlgExpr.AddMult a m) = refl
form-back (UsableAlgExpr.MultAdd m a) = refl
