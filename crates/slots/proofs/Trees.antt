-- A tree that step 1 lets through is one: its root stands for a tree, because the children of a node have smaller indexes. So where no form is found, that
-- tree is no form: `no-form-is`. Assumes nothing.
use mathlib.Core.Path.{◌≡◌, refl}
use mathlib.Core.Bool.{true}
use mathlib.Core.List.{List}
use mathlib.Core.Logic.{⊎_elim, ◌↔◌}
use Rattle.std.specs.Prelude.{None}
use Prim.Native.Nat.{ℕ, zero, suc, ◌≤◌, ◌<◌}
use native.Mathlib.Nat.{eq-or-lt_of_le}
use native.Mathlib.Omega.{arith}
use borrow.Author.Tests.{lt-ltb}
use Rattle.answer.specs.Walk.{each}
use Rattle.answer.proofs.Tests.{both_hold}
use Rattle.blocks.specs.Layout.{node_count, node_kind, left_child, right_child, node_number, node_layout, tree_layout}
use Rattle.blocks.specs.Nodes.{node_in}
use Rattle.blocks.proofs.Told.{tree-told, NodeTold, node-told}
use Rattle.expr.specs.declared.UsableAlgExpr.{UsableAlgExpr}
use Rattle.tree.specs.Stands.{AlgExpr, num, ident, add, sub, mul, div, Stands}
use Rattle.tree.specs.IsForm.{IsForm}
use Rattle.tree.proofs.IsForm.{no-form}
use Rattle.slots.specs.Slots.{nodes_in, root_in, tree_in}
use Rattle.slots.specs.Expresses.{HasTree}

module _ (b : List ℕ) where
  abbrev TreeAt : ℕ → Type 0
  TreeAt k = (t : AlgExpr) × Stands (nodes_in b) (nodes_in b k) t

  -- a node has a tree, by its kind, where those before it have theirs
  module _ (k : ℕ) (here : k < 32) (below : (j : ℕ) → j < k → TreeAt j) where
    -- an operator over the trees of its children
    over : (op : AlgExpr → AlgExpr → AlgExpr)
        → ((t u : AlgExpr) → Stands (nodes_in b) (nodes_in b (left_child b k)) t → Stands (nodes_in b) (nodes_in b (right_child b k)) u → Stands (nodes_in b) (nodes_in b k) (op t u))
        → (left_child b k < k) × (right_child b k < k) → TreeAt k
    over op stands smaller =
        let l = below _ smaller.0 in
        let r = below _ smaller.1 in
        (op l.0 r.0, stands l.0 r.0 l.1 r.1)

    by_kind : (kind : ℕ) → node_kind b k ≡ kind → NodeTold b k → TreeAt k
    unfolding node_in Stands
    by_kind zero e n = (num (node_number b k), rw (lt-ltb k 32 here, e))
    by_kind (suc zero) e n = (ident, rw (lt-ltb k 32 here, e))
    by_kind (suc (suc zero)) e n = over add (λ t u l r. (left_child b k, right_child b k, rw (lt-ltb k 32 here, e), l, r)) (n.smaller (omega arith))
    by_kind (suc (suc (suc zero))) e n = over sub (λ t u l r. (left_child b k, right_child b k, rw (lt-ltb k 32 here, e), l, r)) (n.smaller (omega arith))
    by_kind (suc (suc (suc (suc zero)))) e n = over mul (λ t u l r. (left_child b k, right_child b k, rw (lt-ltb k 32 here, e), l, r)) (n.smaller (omega arith))
    by_kind (suc (suc (suc (suc (suc zero))))) e n = over div (λ t u l r. (left_child b k, right_child b k, rw (lt-ltb k 32 here, e), l, r)) (n.smaller (omega arith))
    by_kind (suc (suc (suc (suc (suc (suc m)))))) e n = absurd (omega (arith, n.kind))

  -- so every node of a table has one, the smaller indexes first
  all-have-trees : (n : ℕ) → n ≤ 32 → each (node_layout b) n ≡ true → (k : ℕ) → k < n → TreeAt k
  unfolding each
  all-have-trees zero h ok k l = absurd (omega arith)
  all-have-trees (suc n) h ok k l =
      let two = both_hold (each (node_layout b) n) (node_layout b n) ok in
      let before = all-have-trees n (omega arith) two.0 in
      ⊎_elim (λ q. rw q (by_kind n (omega arith) before (node_kind b n) refl (node-told b n two.1))) (before k) (eq-or-lt_of_le {n = k} {m = n} (omega arith))

  -- the root among them
  pub root-has-tree : tree_layout b ≡ true → TreeAt (root_in b)
  root-has-tree ok = let told = tree-told b ok in all-have-trees (node_count b) told.most told.nodes (root_in b) (omega (arith, told.some))

  pub no-form-is : tree_layout b ≡ true → (tree_in b ≡ None) ↔ ((t : AlgExpr) × HasTree b t × ((e : UsableAlgExpr) → IsForm t e → ⊥))
  no-form-is ok =
      let root = root-has-tree ok in
      let of_Tree = no-form (nodes_in b) (nodes_in b (root_in b)) in
      (λ q. (root.0, root.1, (of_Tree root.0 root.1).0 q), λ f. (of_Tree f.0 f.1).1 f.2)
