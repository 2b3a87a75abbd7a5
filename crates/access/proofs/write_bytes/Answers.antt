-- `write_bytes` meets its contract: the bytes go to the field's locator. Assumes nothing.
use Rattle.std.proofs.Common.{sym}
use Rattle.access.proofs.BySheet.{locator-refused, handed_on, written-there}
use Rattle.access.proofs.write_bytes.Goals as goal

pub returns-in_err-locate : goal.returns-in_err-locate
returns-in_err-locate c = handed_on _ _ _ _ _ _ c.from_residual.ensures.1 (locator-refused _ _ c.locate.ensures c.in_err-locate.was)

pub returns : goal.returns
returns c = written-there _ _ (sym c.in_ok-locate.ensures) c.write_bytes.ensures
