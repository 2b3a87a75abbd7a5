-- `replay_all` ends: each record takes bytes off. Assumes nothing.
use Rattle.std.proofs.Common.{length}
use Rattle.test_stored.proofs.replay_all.Given as goal

abbrev pub decreases-loop-left : goal.decreases-loop-left
decreases-loop-left l = length l.left
