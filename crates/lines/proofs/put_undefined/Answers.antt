-- `put_undefined` meets its contract: the line's words, one after another. Assumes nothing.
use Rattle.text.proofs.Emit.{word, no_words, ended}
use Rattle.lines.specs.Lines.{undefined_line}
use Rattle.lines.proofs.put_undefined.Goals as goal

pub returns : goal.returns
unfolding undefined_line
returns c =
    ended _ _ _ c.put_bytes-p.ensures
    (word _ _ _ (rw c.slot_word.ensures at c.put_word-p.ensures)
    (word _ _ _ c.put_word-p-2.ensures no_words))
    c.put_byte.ensures
