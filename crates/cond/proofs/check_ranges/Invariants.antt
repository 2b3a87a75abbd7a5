-- `check_ranges` meets its contract. The loop's invariant: the ranges so far passed. Assumes nothing.
use mathlib.Core.Path.{◌≡◌}
use Rattle.answer.specs.Paper.{accepted, first}
use Rattle.cond.specs.Step.{range_fault}
use Rattle.cond.proofs.check_ranges.Given as goal

abbrev pub invariant-loop-k : goal.invariant-loop-k
invariant-loop-k l = first (range_fault l.b l.most l.i) l.k ≡ accepted
