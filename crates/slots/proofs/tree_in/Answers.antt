-- `tree_in` meets its contract: the table that was copied out is that of the block. Assumes nothing.
use Rattle.slots.proofs.CopiedTable.{tree_is}
use Rattle.slots.proofs.tree_in.Goals as goal

pub returns : goal.returns
returns c = rw c.try_take_usable_alg_expr.ensures (tree_is _ _ _ c.nodes_of.ensures c.root_in.ensures)
