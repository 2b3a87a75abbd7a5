-- The expression that is found in an L block is the one that the block expresses: `expresses-is`, by the number of the form, and for a tree by what the
-- classifier finds. Of a block with a tree: `tree-expresses`. Assumes nothing.
use mathlib.Core.Path.{◌≡◌, refl}
use mathlib.Core.Bool.{Bool, true, false, cond}
use mathlib.Core.List.{List}
use mathlib.Core.Logic.{◌↔◌}
use Rattle.std.specs.Prelude.{Option, Some}
use Rattle.std.proofs.lemmas.Option.{none-some}
use Prim.Native.Nat.{ℕ}
use lib.Dec.{eqb}
use borrow.Author.Tests.{eqb-true}
use Rattle.blocks.specs.Layout.{stated_form, first_number, second_number, tree_form}
use Rattle.expr.specs.declared.UsableAlgExpr.{UsableAlgExpr}
use Rattle.expr.specs.Forms.{form_of}
use Rattle.tree.specs.Stands.{AlgExpr}
use Rattle.tree.specs.IsForm.{IsForm}
use Rattle.tree.proofs.IsForm.{is-form}
use Rattle.slots.specs.Slots.{nodes_in, root_in, tree_in, expr_in}
use Rattle.slots.specs.Expresses.{HasTree, Expresses, by-x, by-sum, by_product, by-sum-times, by-product-plus, by-tree}

module _ (b : List ℕ) where
  pub tree-expresses : (e : UsableAlgExpr) → stated_form b ≡ tree_form → (expr_in b ≡ Some e) ↔ ((t : AlgExpr) × HasTree b t × IsForm t e)
  unfolding expr_in
  tree-expresses e six = rw six (is-form (nodes_in b) (nodes_in b (root_in b)) e)

  module _ (e : UsableAlgExpr) where
    -- a form by its number, or the next
    by_number : (form : ℕ) (x : UsableAlgExpr) (next : Option UsableAlgExpr) → (stated_form b ≡ form → Expresses b x) → (next ≡ Some e → Expresses b e)
        → cond (eqb (stated_form b) form) (Some x) next ≡ Some e → Expresses b e
    by_number form x next this others = go (eqb (stated_form b) form) refl
      where
        go : (test : Bool) → eqb (stated_form b) form ≡ test → cond test (Some x) next ≡ Some e → Expresses b e
        go true q h = let same : x ≡ e = cc in rw (← same) (this (eqb-true (stated_form b) form q))
        go false q h = others h

    formed : form_of (stated_form b) (first_number b) (second_number b) ≡ Some e → Expresses b e
    unfolding form_of
    formed =
        by_number 1 _ _ by-x (by_number 2 _ _ by-sum (by_number 3 _ _ by_product (by_number 4 _ _ by-sum-times
        (by_number 5 _ _ by-product-plus (λ h. absurd (none-some e h))))))

    expresses : expr_in b ≡ Some e → Expresses b e
    unfolding expr_in
    expresses = go (eqb (stated_form b) tree_form) refl
      where
        go : (test : Bool) → eqb (stated_form b) tree_form ≡ test → cond test (tree_in b) (form_of (stated_form b) (first_number b) (second_number b)) ≡ Some e → Expresses b e
        go true q h = let f = (is-form (nodes_in b) (nodes_in b (root_in b)) e).0 h in by-tree (eqb-true (stated_form b) tree_form q) f.1 f.2
        go false q h = formed h

  found : {e : UsableAlgExpr} → Expresses b e → expr_in b ≡ Some e
  unfolding expr_in
  found (by-x q) = rw q
  found (by-sum q) = rw q
  found (by_product q) = rw q
  found (by-sum-times q) = rw q
  found (by-product-plus q) = rw q
  found (by-tree {t} {e} q s f) = (tree-expresses e q).1 (t, s, f)

  pub expresses-is : (e : UsableAlgExpr) → (expr_in b ≡ Some e) ↔ Expresses b e
  expresses-is e = (expresses e, found)
