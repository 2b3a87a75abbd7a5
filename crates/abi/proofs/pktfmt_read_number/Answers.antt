-- `pktfmt_read_number` meets its contract: the locator is given, and the number there, or refused. Assumes nothing.
use Rattle.abi.proofs.Fields.{number-there, number-refused}
use Rattle.abi.proofs.pktfmt_read_number.Goals as goal

pub returns-in-Ok : goal.returns-in-Ok
returns-in-Ok c = number-there _ _ c.locate.ensures _ c.in-Ok.is c.locator_numbers.ensures c.read_any.ensures

pub returns-in-Err : goal.returns-in-Err
returns-in-Err c = number-refused _ _ c.locate.ensures _ c.in-Err.is c.tell.ensures
