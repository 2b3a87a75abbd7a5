-- `ranges_hold` meets its contract. The loop's invariant: the ranges so far hold exactly where `ok` says so. Assumes nothing.
use Rattle.std.proofs.Common.{◌≡◌}
use Rattle.blocks.specs.Layout.{range_layout}
use Rattle.answer.specs.Walk.{each}
use Rattle.blocks.proofs.ranges_hold.Given as goal

abbrev pub invariant-loop-k : goal.invariant-loop-k
invariant-loop-k l = l.ok ≡ each (range_layout l.b) l.k
