-- `Locator::judge_bytes` meets its contract: bytes are never fixed. Assumes nothing.
use Rattle.std.proofs.Common.{◌∙◌}
use Rattle.answer.proofs.Chains.{stop, passed, go}
use Rattle.locator.proofs.Reached.{bytes-judged}
use Rattle.locator.proofs.Locator.judge_bytes.Goals as goal

pub returns-in_err-reach : goal.returns-in_err-reach
returns-in_err-reach c = stop _ _ _ c.from_residual.ensures.1 c.in_err-reach.ensures ∙ bytes-judged _ _ _

pub returns : goal.returns
returns c = go (passed c.in_ok-reach.was c.reach.ensures) (rw c.are_bits.ensures at c.refuse.ensures) ∙ bytes-judged _ _ _
