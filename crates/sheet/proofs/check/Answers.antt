-- Answers to the goals of `check`.
use mathlib.Core.Path.{sym, ap, ◌∙◌}
use native.Mathlib.Omega.{arith}
use Rattle.answer.specs.Paper.{first}
use Rattle.answer.proofs.Chains.{first-none, first_more, first_stops, passed, go, stop}
use Rattle.blocks.specs.Layout.{kind_of}
use Rattle.sheet.specs.Sheet.{sheet_check}
use Rattle.sheet.proofs.Blocks.{counts-none, counts-more, counts-le}
use Rattle.sheet.proofs.check.Goals as goal

pub returns-in_err-refuse : goal.returns-in_err-refuse
unfolding sheet_check
returns-in_err-refuse c = stop _ _ _ c.from_residual.ensures.1 (rw c.block_count-n.ensures at c.in_err-refuse.ensures)

pub loop-i-init : goal.loop-i-init
loop-i-init c = record { counted = counts-none _ c.default-before.ensures; ok = first-none _ }

pub returns-in_err-block_fault : goal.returns-in_err-block_fault
unfolding sheet_check
returns-in_err-block_fault c = go (passed c.in_ok-refuse.was (rw c.block_count-n.ensures at c.refuse.ensures)) (first_stops _ _ _ c.loop-i.i _ (omega arith) c.loop-i.invariant.ok c.from_residual-in_err-block_fault.ensures.1 c.in_err-block_fault.ensures)

pub with-before-requires : goal.with-before-requires
with-before-requires c = omega (arith, counts-le _ c.loop-i.i c.loop-i.invariant.counted)

pub loop-i-preserved : goal.loop-i-preserved
loop-i-preserved c =
    record {
      counted = c.with-before.ensures ∙ counts-more _ c.loop-i.i c.loop-i.invariant.counted (c.kind.ensures ∙ ap kind_of c.block.ensures);
      ok = first_more _ c.loop-i.i c.loop-i.invariant.ok (passed c.in_ok-block_fault.was c.block_fault.ensures);
    }

pub returns : goal.returns
unfolding sheet_check
returns c = go (passed c.in_ok-refuse.was (rw c.block_count-n.ensures at c.refuse.ensures)) (sym c.loop-i.invariant.ok ∙ ap (first _) (omega arith))
