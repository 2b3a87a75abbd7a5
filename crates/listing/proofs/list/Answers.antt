-- `list` meets its contract: a text from the buffer's start on. Assumes nothing.
use mathlib.Core.Path.{◌∙◌}
use Rattle.text.proofs.Whole.{from_start}
use Rattle.listing.proofs.list.Goals as goal

pub returns : goal.returns
returns c =
    let left = from_start _ _ c.put_text-to.ensures in
    record { bytes = left.bytes; count = c.filled.ensures.count ∙ left.count }
