-- `Locator::read_bytes` meets its contract: what no run is asked for is not reached, and else the run decides. Assumes nothing.
use Rattle.std.proofs.Common.{sym, ◌∙◌}
use Rattle.locator.proofs.Reached.{nothing_read, bytes-told}
use Rattle.locator.proofs.Locator.read_bytes.Goals as goal

pub returns-then-holds_no_bytes : goal.returns-then-holds_no_bytes
returns-then-holds_no_bytes c = nothing_read _ _ (sym c.holds_no_bytes.ensures ∙ c.if-holds_no_bytes.true)

pub returns : goal.returns
returns c =
    rw (c.read_bytes.ensures, c.byte_pos.ensures, c.whole_bytes.ensures) (bytes-told _ _ (sym c.holds_no_bytes.ensures ∙ c.if-holds_no_bytes.false))
