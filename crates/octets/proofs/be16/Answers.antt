-- `be16` meets its contract: its bytes are those at the offset, with zeros for those that are not there. Assumes nothing.
use Rattle.std.proofs.Common.{◌∙◌}
use Rattle.octets.proofs.Octets.{be_two}
use Rattle.octets.proofs.be16.Goals as goal

pub returns : goal.returns
returns c = c.from_be_bytes.ensures ∙ be_two _ ∙ c.chunk.ensures.1
