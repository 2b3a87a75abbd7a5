-- `put_template` meets its contract. Assumes nothing.
use Rattle.text.proofs.Emit.{ended}
use Rattle.lines.specs.Lines.{template_line}
use Rattle.lines.proofs.put_template.Goals as goal

pub returns : goal.returns
unfolding template_line
returns c =
    ended _ _ _ c.put_bytes-p.ensures c.put_hex_word-p.ensures c.put_byte.ensures
