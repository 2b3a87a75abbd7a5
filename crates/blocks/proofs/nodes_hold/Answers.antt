-- Answers to the goals of `nodes_hold`.
use Rattle.std.proofs.Common.{sym}
use Rattle.answer.proofs.Walk.{each_none, each_more}
use Rattle.blocks.proofs.nodes_hold.Goals as goal

pub loop-k-init : goal.loop-k-init
loop-k-init c = sym (each_none _)

pub loop-k-preserved : goal.loop-k-preserved
loop-k-preserved c = each_more _ _ c.loop-k.invariant c.node_holds-ok.ensures
