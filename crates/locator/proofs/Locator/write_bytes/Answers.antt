-- `Locator::write_bytes` meets its contract: what no run is asked for is refused, and else the run decides. Assumes nothing.
use Rattle.std.proofs.Common.{sym, ◌∙◌}
use borrow.Author.Tests.{not-false}
use Rattle.answer.proofs.Tests.{neither}
use Rattle.locator.proofs.Reached.{bytes-barred, not_written, bytes_left}
use Rattle.locator.proofs.Locator.write_bytes.Goals as goal

pub returns-then-holds_no_bytes-are_bits : goal.returns-then-holds_no_bytes-are_bits
returns-then-holds_no_bytes-are_bits c =
    not_written _ _ _ (bytes-barred _ _ _ (rw (c.holds_no_bytes.ensures, c.are_bits.ensures) at c.if-holds_no_bytes-are_bits.true)) c.judge_bytes.ensures

pub returns : goal.returns
returns c =
    let two = neither _ _ c.if-holds_no_bytes-are_bits.false in
    bytes_left _ _ _ (sym c.holds_no_bytes.ensures ∙ two.0) (sym c.are_bits.ensures ∙ not-false _ two.1) (rw c.byte_pos.ensures at c.write_bytes.ensures) c.at_field.ensures
