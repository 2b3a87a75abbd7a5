-- `Locator::write_at_once` meets its contract: what is barred is not written, and else the run decides. Assumes nothing.
use mathlib.Core.Path.{sym, ◌∙◌}
use Rattle.locator.proofs.Reached.{number-barred, not-at-once, number-at-once}
use Rattle.locator.proofs.Locator.write_at_once.Goals as goal

pub returns-then-bars_number : goal.returns-then-bars_number
returns-then-bars_number c = not-at-once _ _ _ (number-barred _ _ _ (sym c.bars_number.ensures ∙ c.if-bars_number.true))

pub returns : goal.returns
returns c =
    number-at-once _ _ _ (sym c.bars_number.ensures ∙ c.if-bars_number.false) c.write_at_once.ensures
