-- Answers to the goals of `check`. It goes as far as there are F blocks.
use mathlib.Core.Path.{sym, ap, ◌∙◌}
use native.Mathlib.Omega.{arith}
use Rattle.answer.specs.Paper.{first}
use Rattle.answer.proofs.Chains.{first-none, first_more, first_stops, passed}
use Rattle.sheet.specs.declared.Counts.{Counts}
use Rattle.field_blocks.proofs.check.Goals as goal

pub loop-i-init : goal.loop-i-init
loop-i-init c = first-none _

pub returns-in_err-check_block : goal.returns-in_err-check_block
returns-in_err-check_block c =
    let all = ap (λ (n : Counts). n.fields) c.block_counts-i-end.ensures in
    first_stops _ _ _ c.loop-i.i _ (omega (arith, all)) c.loop-i.invariant c.from_residual.ensures.1 (rw c.block.ensures at c.in_err-check_block.ensures)

pub loop-i-preserved : goal.loop-i-preserved
loop-i-preserved c = first_more _ c.loop-i.i c.loop-i.invariant (passed c.in_ok-check_block.was (rw c.block.ensures at c.check_block.ensures))

pub returns : goal.returns
returns c = sym c.loop-i.invariant ∙ ap (first _) (omega (arith, ap (λ (n : Counts). n.fields) c.block_counts-i-end.ensures))
