-- Length 12's rule: which trees are one of the five forms. A tree is a node of a table, with what its children's indexes stand for. Nodes that the
-- root does not reach are not asked for. Assumes nothing.
use Rattle.std.specs.Prelude.{Bool, true, false, cond, List, ℕ, get_or, Option, None, Some}
use Rattle.answer.specs.Walk.{◌or_else◌}
use Rattle.blocks.specs.declared.nodes.Node.{Node}
use Rattle.expr.specs.declared.UsableAlgExpr.{UsableAlgExpr}

-- what stands at each index; past a table of 32 nodes it is the number 0
abbrev pub NodeTable : Type 0
NodeTable = ℕ → Node

abbrev pub table_of : List Node → NodeTable
table_of nodes i = get_or nodes i (Node.Num 0)

-- ---- leaves

abbrev pub leaf_number : Node → Option ℕ
leaf_number (Node.Num n) = Some n
leaf_number Node.Ident = None
leaf_number (Node.Add l r) = None
leaf_number (Node.Sub l r) = None
leaf_number (Node.Mul l r) = None
leaf_number (Node.Div l r) = None

abbrev pub is_x : Node → Bool
is_x (Node.Num n) = false
is_x Node.Ident = true
is_x (Node.Add l r) = false
is_x (Node.Sub l r) = false
is_x (Node.Mul l r) = false
is_x (Node.Div l r) = false

-- ---- a number and x

-- in either order: the number
abbrev pub beside_x : Node → Node → Option ℕ
beside_x p q = cond (is_x q) (leaf_number p) (cond (is_x p) (leaf_number q) None)

-- an addition form, a number and x added: the number
abbrev pub addend : NodeTable → Node → Option ℕ
addend at (Node.Num n) = None
addend at Node.Ident = None
addend at (Node.Add l r) = beside_x (at l) (at r)
addend at (Node.Sub l r) = None
addend at (Node.Mul l r) = None
addend at (Node.Div l r) = None

-- a product form, a number and x multiplied: the number
abbrev pub factor : NodeTable → Node → Option ℕ
factor at (Node.Num n) = None
factor at Node.Ident = None
factor at (Node.Add l r) = None
factor at (Node.Sub l r) = None
factor at (Node.Mul l r) = beside_x (at l) (at r)
factor at (Node.Div l r) = None

-- ---- forms

-- a form with one number, or with two, where they are there
abbrev pub with_one : (ℕ → UsableAlgExpr) → Option ℕ → Option UsableAlgExpr
with_one form (Some n) = Some (form n)
with_one form None = None

abbrev pub with_two : (ℕ → ℕ → UsableAlgExpr) → Option ℕ → Option ℕ → Option UsableAlgExpr
with_two form (Some n) q = with_one (form n) q
with_two form None q = None

-- a sum: a number and x, or a product form plus a number, in either order
abbrev pub sum : NodeTable → Node → Node → Option UsableAlgExpr
sum at p q =
    with_one UsableAlgExpr.SimpleAdd (beside_x p q)
    or_else with_two UsableAlgExpr.MultAdd (factor at p) (leaf_number q)
    or_else with_two UsableAlgExpr.MultAdd (factor at q) (leaf_number p)

-- a product: a number and x, or an addition form times a number, in either order
abbrev pub product : NodeTable → Node → Node → Option UsableAlgExpr
product at p q =
    with_one UsableAlgExpr.SimpleMult (beside_x p q)
    or_else with_two UsableAlgExpr.AddMult (addend at p) (leaf_number q)
    or_else with_two UsableAlgExpr.AddMult (addend at q) (leaf_number p)

-- a tree: x, a sum or a product
abbrev pub usable : NodeTable → Node → Option UsableAlgExpr
usable at (Node.Num n) = None
usable at Node.Ident = Some UsableAlgExpr.IdentOnly
usable at (Node.Add l r) = sum at (at l) (at r)
usable at (Node.Sub l r) = None
usable at (Node.Mul l r) = product at (at l) (at r)
usable at (Node.Div l r) = None
