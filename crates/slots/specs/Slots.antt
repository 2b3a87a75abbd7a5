-- The expression of an L block, and what a length slot of a sheet holds. Assumes nothing.
use Rattle.std.specs.Prelude.{Bool, true, false, cond, ◌&&◌, List, ℕ, ◌-◌, ltb, eqb}
use Rattle.std.specs.Prelude.{Option, None, Some}
use Rattle.blocks.specs.declared.nodes.Node.{Node}
use Rattle.blocks.specs.Layout.{kind_of, is_l, stated_form, first_number, second_number, tree_form, node_count}
use Rattle.blocks.specs.Nodes.{node_in}
use Rattle.sheet.specs.Blocks.{block_count, block_at, slot_block}
use Rattle.expr.specs.declared.UsableAlgExpr.{UsableAlgExpr}
use Rattle.expr.specs.Forms.{form_of}
use Rattle.tree.specs.Tree.{NodeTable, usable}
use Rattle.slots.specs.declared.LengthField.{LengthField}

-- the node table of a block, 32 nodes; and its root, the last of the nodes that are counted
abbrev pub nodes_in : List ℕ → NodeTable
nodes_in b k = cond (ltb k 32) (node_in b k) (Node.Num 0)

abbrev pub root_in : List ℕ → ℕ
root_in b = node_count b - 1

abbrev pub tree_in : List ℕ → Option UsableAlgExpr
tree_in b = usable (nodes_in b) (nodes_in b (root_in b))

-- form 6 is a tree; any other is a form by its number, with the two numbers of the block. Form 0, and a tree that is none of the forms, is no expression
unfoldable pub expr_in : List ℕ → Option UsableAlgExpr
unfolding form_of
expr_in b = cond (eqb (stated_form b) tree_form) (tree_in b) (form_of (stated_form b) (first_number b) (second_number b))

-- ---- slots: absent where no block gives one; undefined, or an expression

abbrev pub held : Option UsableAlgExpr → LengthField
held (Some e) = LengthField.Expr e
held None = LengthField.Undefined

abbrev pub held_by : List ℕ → Option ℕ → LengthField
held_by s (Some i) = held (expr_in (block_at s i))
held_by s None = LengthField.Absent

abbrev pub block_of_slot : List ℕ → ℕ → Option ℕ
block_of_slot s slot = slot_block s slot (block_count s)

abbrev pub length_field : List ℕ → ℕ → LengthField
length_field s slot = held_by s (block_of_slot s slot)

-- ---- length 12

-- a tree in an L block
abbrev pub is_tree : List ℕ → Bool
is_tree b = is_l (kind_of b) && eqb (stated_form b) tree_form

-- none of the five forms
abbrev pub no_form : Option UsableAlgExpr → Bool
no_form (Some e) = false
no_form None = true
