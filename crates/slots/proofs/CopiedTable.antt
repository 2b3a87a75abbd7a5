-- The node table that was copied out of a block is that block's. Assumes nothing.
use mathlib.Core.Path.{◌≡◌, refl, ap, fun_ext}
use mathlib.Core.Bool.{Bool, true, false, cond}
use mathlib.Core.List.{List}
use Prim.Native.Nat.{ℕ}
use native.Mathlib.Omega.{arith}
use lib.Dec.{ltb}
use lib.ListN.{get_or, get_or-eq_default}
use borrow.Author.Tests.{ltb-true, ltb-false}
use Rattle.blocks.specs.declared.nodes.Node.{Node}
use Rattle.blocks.specs.Nodes.{node_in, NodesAre}
use Rattle.tree.specs.Tree.{NodeTable, table_of, usable}
use Rattle.slots.specs.Slots.{nodes_in, root_in, tree_in}

table_is : (b : List ℕ) (nodes : List Node) → NodesAre b nodes → table_of nodes ≡ nodes_in b
table_is b nodes h = fun_ext (λ k. at k (ltb k 32) refl)
  where
    at : (k : ℕ) (below : Bool) → ltb k 32 ≡ below → get_or nodes k (Node.Num 0) ≡ cond (ltb k 32) (node_in b k) (Node.Num 0)
    at k true q = rw q (h.same k (ltb-true k 32 q))
    at k false q = rw q (get_or-eq_default nodes (Node.Num 0) {n = k} (omega (arith, h.size, ltb-false k 32 q)))

pub tree_is : (b : List ℕ) (nodes : List Node) (root : ℕ) → NodesAre b nodes → root ≡ root_in b → usable (table_of nodes) (table_of nodes root) ≡ tree_in b
tree_is b nodes root h e = rw e (ap (λ (at : NodeTable). usable at (at (root_in b))) (table_is b nodes h))
