-- `list_input` meets its contract: the text of what was read of the input, whole. Assumes nothing.
use native.Mathlib.Omega.{arith}
use Rattle.listing.proofs.Whole.{input-listed}
use Rattle.listing.proofs.list_input.Goals as goal

pub returns : goal.returns
returns c = input-listed (omega arith) (omega arith) (rw c.part.ensures) c.list.ensures
