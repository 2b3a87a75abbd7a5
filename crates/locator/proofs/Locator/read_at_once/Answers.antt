-- `Locator::read_at_once` meets its contract: what no run is asked for is not seen, and else the run decides. Assumes nothing.
use Rattle.std.proofs.Common.{sym, ◌∙◌}
use Rattle.locator.proofs.Reached.{no_number, not_seen, number-seen}
use Rattle.locator.proofs.Locator.read_at_once.Goals as goal

pub returns-then-holds_no_number : goal.returns-then-holds_no_number
returns-then-holds_no_number c = not_seen _ _ (no_number _ _ (sym c.holds_no_number.ensures ∙ c.if-holds_no_number.true))

pub returns : goal.returns
returns c = c.read_at_once.ensures ∙ number-seen _ _ (sym c.holds_no_number.ensures ∙ c.if-holds_no_number.false)
