-- `pktfmt_list` meets its contract: the text itself, where it ends before the buffer does; else what 40,000 bytes hold of it, which is all. Assumes nothing.
use native.Mathlib.Nat.{le_refl}
use Rattle.listing.proofs.Whole.{whole-of-40000}
use Rattle.abi.proofs.pktfmt_list.Goals as goal

pub returns : goal.returns
returns c =
    record { bytes = c.list-n.ensures.bytes; count = (whole-of-40000 c.list.ensures (le_refl 40000)).count }
