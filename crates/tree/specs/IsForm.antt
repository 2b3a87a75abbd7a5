-- Length 12's rule, said of trees: which tree is which of the five forms. Assumes nothing.
use Rattle.std.specs.Prelude.{◌≡◌, ◌⊎◌, ℕ}
use Rattle.expr.specs.declared.UsableAlgExpr.{UsableAlgExpr}
use Rattle.tree.specs.Stands.{AlgExpr, num, ident, add, mul}

-- t and u joined, in either order
abbrev pub EitherOrder : (AlgExpr → AlgExpr → AlgExpr) → AlgExpr → AlgExpr → AlgExpr → Type 0
EitherOrder op t u whole = (whole ≡ op t u) ⊎ (whole ≡ op u t)

-- the tree t is the form e: x; a number and x, added or multiplied; a product form plus a number; an addition form times a number
pub data IsForm : AlgExpr → UsableAlgExpr → Type 0 where
  itself : IsForm ident UsableAlgExpr.IdentOnly
  added : {t : AlgExpr} {a : ℕ} → EitherOrder add (num a) ident t → IsForm t (UsableAlgExpr.SimpleAdd a)
  multiplied : {t : AlgExpr} {m : ℕ} → EitherOrder mul (num m) ident t → IsForm t (UsableAlgExpr.SimpleMult m)
  product-plus : {p t : AlgExpr} {m a : ℕ} → IsForm p (UsableAlgExpr.SimpleMult m) → EitherOrder add p (num a) t → IsForm t (UsableAlgExpr.MultAdd m a)
  addition-times : {p t : AlgExpr} {a m : ℕ} → IsForm p (UsableAlgExpr.SimpleAdd a) → EitherOrder mul p (num m) t → IsForm t (UsableAlgExpr.AddMult a m)
