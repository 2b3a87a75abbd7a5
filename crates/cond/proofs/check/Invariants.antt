-- `check` meets its contract. The loop's invariant: the entries so far passed. Assumes nothing.
use mathlib.Core.Path.{◌≡◌}
use Rattle.answer.specs.Paper.{accepted, first}
use Rattle.cond.specs.Step.{entry_fault}
use Rattle.cond.proofs.check.Given as goal

abbrev pub invariant-loop-i : goal.invariant-loop-i
invariant-loop-i l = first (entry_fault l.s) l.i ≡ accepted
