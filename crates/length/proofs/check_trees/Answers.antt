-- Answers to the goals of `check_trees`.
use native.Mathlib.Omega.{arith}
use Rattle.answer.proofs.Chains.{first-none, first_more, first_stops, passed}
use Rattle.length.proofs.check_trees.Goals as goal

pub loop-i-init : goal.loop-i-init
loop-i-init c = first-none _

pub returns-in_err-refuse : goal.returns-in_err-refuse
returns-in_err-refuse c =
    first_stops _ _ _ c.loop-i.i _ (omega arith) c.loop-i.invariant c.from_residual.ensures.1
    (rw (c.no_form.ensures, c.block.ensures) at c.in_err-refuse.ensures)

pub loop-i-preserved : goal.loop-i-preserved
loop-i-preserved c =
    first_more _ c.loop-i.i c.loop-i.invariant (passed c.in_ok-refuse.was (rw (c.no_form.ensures, c.block.ensures) at c.refuse.ensures))
