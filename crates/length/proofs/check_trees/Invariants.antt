-- `check_trees` meets its contract. The loop's invariant: the trees so far are forms. Assumes nothing.
use mathlib.Core.Path.{◌≡◌}
use Rattle.answer.specs.Paper.{accepted, first}
use Rattle.length.specs.Step.{tree_fault}
use Rattle.length.proofs.check_trees.Given as goal

abbrev pub invariant-loop-i : goal.invariant-loop-i
invariant-loop-i l = first (tree_fault l.s) l.i ≡ accepted
