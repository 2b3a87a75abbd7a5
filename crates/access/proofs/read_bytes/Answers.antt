-- `read_bytes` meets its contract: the bytes are read at the field's locator. Assumes nothing.
use Rattle.std.proofs.Common.{sym, ap, ◌∙◌}
use Rattle.locator.specs.Locator.{part_of}
use Rattle.access.proofs.BySheet.{locator-refused, read-refused, read-there}
use Rattle.access.proofs.read_bytes.Goals as goal

pub returns-in-Ok : goal.returns-in-Ok
returns-in-Ok c = c.read_bytes.ensures ∙ ap part_of (read-there _ _ (sym c.in-Ok.ensures) _ _)

pub returns-in-Err : goal.returns-in-Err
returns-in-Err c = sym (ap part_of (read-refused _ _ (locator-refused _ _ c.locate.ensures c.in-Err.is) _ _))
