-- Answers to the goals of `check`.
use mathlib.Core.Path.{◌≡◌, sym, ◌∙◌}
use native.Mathlib.Omega.{arith}
use Rattle.answer.proofs.Chains.{first-none, first_more, first-stop, passed, handed, stand, go}
use Rattle.sheet.specs.Blocks.{block_count}
use Rattle.cond.specs.Step.{cond_check}
use Rattle.cond.proofs.check.Goals as goal

pub loop-i-init : goal.loop-i-init
loop-i-init c = first-none _

pub returns-in_err-entry_fault : goal.returns-in_err-entry_fault
unfolding cond_check
returns-in_err-entry_fault c =
    handed _ _ c.from_residual.ensures.1 ∙ sym (stand _ (first-stop _ c.loop-i.i _ (omega arith) c.loop-i.invariant (sym c.in_err-entry_fault.ensures)))

pub loop-i-preserved : goal.loop-i-preserved
loop-i-preserved c = first_more _ c.loop-i.i c.loop-i.invariant (passed c.in_ok-entry_fault.was c.entry_fault.ensures)

pub returns : goal.returns
unfolding cond_check
returns c =
    let all : c.loop-i.i ≡ block_count c.args.s.now = omega arith in
    go (rw all at c.loop-i.invariant) (rw (c.refuse.ensures, c.block_counts-many.ensures, c.block_count-n.ensures))
