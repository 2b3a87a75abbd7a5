-- `pktfmt_read_bytes` meets its contract: the locator is given, and where its bytes stand, or refused. Assumes nothing.
use Rattle.abi.proofs.Fields.{span-there, span-refused}
use Rattle.abi.proofs.pktfmt_read_bytes.Goals as goal

pub returns-in-Ok : goal.returns-in-Ok
returns-in-Ok c = span-there _ _ c.locate.ensures _ c.span.result c.in-Ok.is c.span.ensures c.tell.ensures

pub returns-in-Err : goal.returns-in-Err
returns-in-Err c = span-refused _ _ c.locate.ensures _ c.in-Err.is c.tell-in-Err.ensures
