-- Trees without a table, and the tree that stands at a node of one. Assumes nothing.
use Rattle.std.specs.Prelude.{◌≡◌, ℕ}
use Rattle.blocks.specs.declared.nodes.Node.{Node}
use Rattle.tree.specs.Tree.{NodeTable}

pub data AlgExpr : Type 0 where
  num : ℕ → AlgExpr
  ident : AlgExpr
  add : AlgExpr → AlgExpr → AlgExpr
  sub : AlgExpr → AlgExpr → AlgExpr
  mul : AlgExpr → AlgExpr → AlgExpr
  div : AlgExpr → AlgExpr → AlgExpr

-- a node with this tree: the same operator, over children with the trees that it is over
unfoldable pub Stands : NodeTable → Node → AlgExpr → Type 0
Stands at p (num n) = p ≡ Node.Num n
Stands at p ident = p ≡ Node.Ident
Stands at p (add t u) = (l : ℕ) × (r : ℕ) × (p ≡ Node.Add l r) × Stands at (at l) t × Stands at (at r) u
Stands at p (sub t u) = (l : ℕ) × (r : ℕ) × (p ≡ Node.Sub l r) × Stands at (at l) t × Stands at (at r) u
Stands at p (mul t u) = (l : ℕ) × (r : ℕ) × (p ≡ Node.Mul l r) × Stands at (at l) t × Stands at (at r) u
Stands at p (div t u) = (l : ℕ) × (r : ℕ) × (p ≡ Node.Div l r) × Stands at (at l) t × Stands at (at r) u
