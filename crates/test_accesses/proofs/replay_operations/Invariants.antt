-- `replay_operations` leaves at most what it was given. Assumes nothing.
use Rattle.std.proofs.Common.{◌≤◌, length}
use Rattle.test_accesses.proofs.replay_operations.Given as goal

abbrev pub invariant-loop : goal.invariant-loop
invariant-loop l = length l.left ≤ length l.operations
