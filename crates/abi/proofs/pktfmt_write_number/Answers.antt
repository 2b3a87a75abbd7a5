-- `pktfmt_write_number` meets its contract: the locator is given, and the write there told, or refused. Assumes nothing.
use Rattle.abi.proofs.Fields.{write-there, write-refused}
use Rattle.abi.proofs.pktfmt_write_number.Goals as goal

pub returns-in-Ok : goal.returns-in-Ok
returns-in-Ok c =
    let wrote = write-there _ _ c.locate.ensures _ _ c.in-Ok.is c.locator_numbers.ensures c.write_any.ensures.answered c.write_any.ensures.buf_after in
    record { answered = wrote.0; buf_after = wrote.1 }

pub returns-in-Err : goal.returns-in-Err
returns-in-Err c =
    let wrote = write-refused _ _ c.locate.ensures _ _ c.in-Err.is c.tell_refusal.ensures in
    record { answered = wrote.0; buf_after = wrote.1 }
