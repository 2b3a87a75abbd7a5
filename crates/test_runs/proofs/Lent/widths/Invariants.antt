-- Of each width so far at most 4 are right.
use Rattle.std.proofs.Common.{◌+◌, ◌*◌, ◌≤◌}
use Rattle.test_runs.proofs.Lent.widths.Given as goal

abbrev pub invariant-loop-w : goal.invariant-loop-w
invariant-loop-w l = l.right + 4 ≤ 4 * l.w
