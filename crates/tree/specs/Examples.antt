-- Trees that are forms and one that is none, and what they give, computed. Assumes nothing.
use Rattle.std.specs.Prelude.{◌≡◌, refl, ℕ}
use Rattle.std.proofs.Common.{inl, inr, arith}
use Rattle.std.specs.Prelude.{Some}
use Rattle.expr.specs.declared.UsableAlgExpr.{UsableAlgExpr}
use Rattle.expr.specs.Forms.{in64_bits}
use Rattle.tree.specs.Stands.{num, ident, add, sub, mul}
use Rattle.tree.specs.IsForm.{IsForm, added, multiplied, product-plus, addition-times}
use Rattle.tree.specs.Meaning.{worked_out}

-- 4 * (x + 2) and (x + 2) * 4 are the addition form x + 2 times 4, and for x 5 they are 28
four-times : IsForm (mul (num 4) (add ident (num 2))) (UsableAlgExpr.AddMult 2 4)
four-times = addition-times (added (inr refl)) (inr refl)

times-four : IsForm (mul (add ident (num 2)) (num 4)) (UsableAlgExpr.AddMult 2 4)
times-four = addition-times (added (inr refl)) (inl refl)

at_five : (worked_out (mul (num 4) (add ident (num 2))) 5 ≡ Some 28) × (worked_out (mul (add ident (num 2)) (num 4)) 5 ≡ Some 28)
unfolding worked_out in64_bits
at_five = (refl, refl)

-- x - 2 is no form
differ : ◌≡◌ {A = ℕ} 0 1 → ⊥
differ e = omega arith

minus-two : {e : UsableAlgExpr} → IsForm (sub ident (num 2)) e → ⊥
minus-two (added (inl q)) = differ cc
minus-two (added (inr q)) = differ cc
minus-two (multiplied (inl q)) = differ cc
minus-two (multiplied (inr q)) = differ cc
minus-two (product-plus f (inl q)) = differ cc
minus-two (product-plus f (inr q)) = differ cc
minus-two (addition-times f (inl q)) = differ cc
minus-two (addition-times f (inr q)) = differ cc
