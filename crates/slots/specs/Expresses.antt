-- What an L block expresses, said of its form and its tree. Assumes nothing.
use Rattle.std.specs.Prelude.{◌≡◌, List, ℕ}
use Rattle.blocks.specs.Layout.{stated_form, first_number, second_number, tree_form}
use Rattle.expr.specs.declared.UsableAlgExpr.{UsableAlgExpr}
use Rattle.tree.specs.Stands.{AlgExpr, Stands}
use Rattle.tree.specs.IsForm.{IsForm}
use Rattle.slots.specs.Slots.{nodes_in, root_in}

-- the tree t stands at the root of block b's nodes
abbrev pub HasTree : List ℕ → AlgExpr → Type 0
HasTree b t = Stands (nodes_in b) (nodes_in b (root_in b)) t

-- block b expresses e: by the number of its form and its numbers, or by a tree that is this form
pub data Expresses (b : List ℕ) : UsableAlgExpr → Type 0 where
  -- 1 x; 2 x + a; 3 x * m; 4 (x + a) * m; 5 x * m + a; 6 a tree
  by-x : stated_form b ≡ 1 → Expresses b UsableAlgExpr.IdentOnly
  by-sum : stated_form b ≡ 2 → Expresses b (UsableAlgExpr.SimpleAdd (first_number b))
  by_product : stated_form b ≡ 3 → Expresses b (UsableAlgExpr.SimpleMult (first_number b))
  by-sum-times : stated_form b ≡ 4 → Expresses b (UsableAlgExpr.AddMult (first_number b) (second_number b))
  by-product-plus : stated_form b ≡ 5 → Expresses b (UsableAlgExpr.MultAdd (first_number b) (second_number b))
  by-tree : {t : AlgExpr} {e : UsableAlgExpr} → stated_form b ≡ tree_form → HasTree b t → IsForm t e → Expresses b e
