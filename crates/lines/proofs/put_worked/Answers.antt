-- `put_worked` meets its contract: the line's words, one after another. Assumes nothing.
use Rattle.text.proofs.Emit.{word, ended}
use Rattle.lines.specs.Lines.{worked_line}
use Rattle.lines.proofs.put_worked.Goals as goal

pub returns : goal.returns
unfolding worked_line
returns c =
    ended _ _ _ c.put_bytes-p.ensures
    (word _ _ _ (rw c.slot_word.ensures at c.put_word-p.ensures)
    (word _ _ _ c.put_word-p-2.ensures
    c.put_largest-p.ensures))
    c.put_byte.ensures
