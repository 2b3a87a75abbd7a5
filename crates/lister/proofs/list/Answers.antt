-- What was listed lies in its buffer.
use Rattle.listing.proofs.Whole.{as_read, in_buffer}
use Rattle.lister.proofs.list.Goals as goal

pub slice_bounds-out-end : goal.slice_bounds-out-end
slice_bounds-out-end c = (in_buffer (as_read c.list_input-k.ensures)).0

pub slice_bounds-write_all-end : goal.slice_bounds-write_all-end
slice_bounds-write_all-end c = (in_buffer (as_read c.list_input-k.ensures)).1
