-- `Tally::put_first` meets its contract: the number, and then the words. Assumes nothing.
use Rattle.text.proofs.Emit.{then}
use Rattle.packed.specs.Counted.{first_text}
use Rattle.packed.proofs.tally.Tally.put_first.Goals as goal

pub returns : goal.returns
unfolding first_text
returns c =
    then _ _ _ c.put_decimal-p.ensures c.put_bytes.ensures
