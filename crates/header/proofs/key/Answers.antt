-- `key` meets its contract: it is the definition. Assumes nothing.
use Rattle.header.specs.Working.{key_of}
use Rattle.header.proofs.key.Goals as goal

pub returns : goal.returns
returns c = unfold key_of in rw (c.last_two-last.ensures, c.byte_at-first.ensures)
