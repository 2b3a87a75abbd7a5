-- `can_read_bytes` meets its contract: it is asked at the field's locator. Assumes nothing.
use Rattle.std.proofs.Common.{sym, ◌∙◌}
use Rattle.answer.proofs.Chains.{handed}
use Rattle.access.proofs.BySheet.{locator-refused, reach-refused, reach-there}
use Rattle.access.proofs.can_read_bytes.Goals as goal

pub returns-in_err-locate : goal.returns-in_err-locate
returns-in_err-locate c = handed _ _ c.from_residual.ensures.1 ∙ sym (reach-refused _ _ (locator-refused _ _ c.locate.ensures c.in_err-locate.was) _ _)

pub returns : goal.returns
returns c = c.can_read_bytes.ensures ∙ reach-there _ _ (sym c.in_ok-locate.ensures) _ _
