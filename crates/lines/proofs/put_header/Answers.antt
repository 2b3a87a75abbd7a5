-- `put_header` meets its contract: the line's words, one after another. Assumes nothing.
use Rattle.text.proofs.Emit.{word, no_words, ended}
use Rattle.lines.specs.Lines.{header_line}
use Rattle.lines.proofs.put_header.Goals as goal

pub returns : goal.returns
unfolding header_line
returns c =
    ended _ _ _ c.put_bytes-p.ensures (word _ _ _ c.put_number-p.ensures no_words) c.put_byte.ensures
