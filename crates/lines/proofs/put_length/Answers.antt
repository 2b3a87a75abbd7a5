-- `put_length` meets its contract: by what the slot holds. Assumes nothing.
use mathlib.Core.Path.{sym}
use Rattle.text.proofs.Emit.{emit-none}
use Rattle.lines.proofs.put_length.Goals as goal

pub returns-in-Absent : goal.returns-in-Absent
returns-in-Absent c = rw c.in-Absent.is (sym (emit-none _))
