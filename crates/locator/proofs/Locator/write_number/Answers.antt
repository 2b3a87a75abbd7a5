-- `Locator::write_number` meets its contract: what is barred is refused, and else the run decides. Assumes nothing.
use Rattle.std.proofs.Common.{sym, ◌∙◌}
use Rattle.locator.proofs.Reached.{number-barred, not_written, number-left}
use Rattle.locator.proofs.Locator.write_number.Goals as goal

pub returns-then-bars_number : goal.returns-then-bars_number
returns-then-bars_number c =
    not_written _ _ _ (number-barred _ _ _ (sym c.bars_number.ensures ∙ c.if-bars_number.true)) c.judge_number.ensures

pub returns : goal.returns
returns c = number-left _ _ _ (sym c.bars_number.ensures ∙ c.if-bars_number.false) c.write_number.ensures c.at_field.ensures
