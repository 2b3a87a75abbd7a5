-- `back` meets its contract: the way back of the form is worked out. Assumes nothing.
use Rattle.abi.proofs.FormsBack.{back-same}
use Rattle.abi.proofs.lengths.back.Goals as goal

pub returns : goal.returns
returns c = rw (← c.form_from.ensures, c.in_ok-form_from.was) (back-same _ c.args.y c.ranges.y.fits c.reverse_exec.ensures)
