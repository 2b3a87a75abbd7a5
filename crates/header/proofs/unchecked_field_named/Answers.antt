-- `unchecked_field_named` meets its contract: the walk goes over all fields. Assumes nothing.
use Rattle.header.proofs.unchecked_field_named.Goals as goal

pub returns : goal.returns
returns c = rw (c.named_among.ensures, c.block_counts.ensures)
