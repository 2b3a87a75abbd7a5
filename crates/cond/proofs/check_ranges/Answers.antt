-- Answers to the goals of `check_ranges`.
use native.Mathlib.Omega.{arith}
use Rattle.answer.proofs.Chains.{first-none, first_more, first_stops, passed}
use Rattle.cond.proofs.check_ranges.Goals as goal

pub loop-k-init : goal.loop-k-init
loop-k-init c = first-none _

pub returns-in_err-range_fault : goal.returns-in_err-range_fault
returns-in_err-range_fault c =
    first_stops _ _ _ c.loop-k.k _ (omega (arith, c.range_count-k-end.ensures)) c.loop-k.invariant c.from_residual.ensures.1 c.in_err-range_fault.ensures

pub loop-k-preserved : goal.loop-k-preserved
loop-k-preserved c = first_more _ c.loop-k.k c.loop-k.invariant (passed c.in_ok-range_fault.was c.range_fault.ensures)
