-- `pktfmt_template` meets its contract: its buffer is the one that is owed. Assumes nothing.
use Rattle.abi.proofs.SixNumbers.{template-after}
use Rattle.abi.proofs.pktfmt_template.Goals as goal

pub returns-clause-buf_after : goal.returns-clause-buf_after
returns-clause-buf_after c = template-after c.build_header_template.ensures
