-- What step 4 reads of a block that states a length. Assumes nothing.
use Rattle.std.specs.Prelude.{◌≡◌, List, ℕ, ◌-◌, ◌<◌, length, get_or}
use Rattle.std.specs.Prelude.{None, Some}
use Rattle.blocks.specs.declared.nodes.Node.{Node}
use Rattle.stated.specs.Items.{LengthItem, undefined, as_form, as_tree}
use Rattle.slots.specs.Slots.{nodes_in, root_in, tree_in, expr_in}

-- no expression; the form that is stated; the tree of the nodes that are stated, the last of them the root
abbrev pub ExprRead : List ℕ → LengthItem → Type 0
ExprRead b undefined = expr_in b ≡ None
ExprRead b (as_form name e) = expr_in b ≡ Some e
ExprRead b (as_tree name nodes) = (expr_in b ≡ tree_in b) × (root_in b ≡ length nodes - 1) × ((k : ℕ) → k < length nodes → nodes_in b k ≡ get_or nodes k (Node.Num 0))
