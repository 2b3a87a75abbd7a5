-- `nodes_hold` meets its contract. The loop's invariant: the nodes so far hold exactly where `ok` says so. Assumes nothing.
use Rattle.std.proofs.Common.{◌≡◌}
use Rattle.blocks.specs.Layout.{node_layout}
use Rattle.answer.specs.Walk.{each}
use Rattle.blocks.proofs.nodes_hold.Given as goal

abbrev pub invariant-loop-k : goal.invariant-loop-k
invariant-loop-k l = l.ok ≡ each (node_layout l.b) l.k
