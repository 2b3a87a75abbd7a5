-- `unpack` is safe and ends: each turn takes bytes off, and comes at most a gap and a run past the longest text. Assumes nothing.
use Rattle.std.proofs.Common.{◌≤◌, length}
use Rattle.packed.proofs.unpack.Given as goal

abbrev pub invariant-loop-left : goal.invariant-loop-left
invariant-loop-left l = l.to ≤ 4295033086

abbrev pub decreases-loop-left : goal.decreases-loop-left
decreases-loop-left l = length l.left
