-- Of each start so far at most 256 are right.
use Rattle.std.proofs.Common.{◌*◌, ◌≤◌}
use Rattle.test_runs.proofs.Lent.starts.Given as goal

abbrev pub invariant-loop-s : goal.invariant-loop-s
invariant-loop-s l = l.right ≤ 256 * l.s
