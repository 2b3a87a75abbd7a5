-- `Tally::put_counts` meets its contract: numbers and words, one after another. Assumes nothing.
use Rattle.text.proofs.Emit.{then}
use Rattle.packed.specs.Counted.{counts_text}
use Rattle.packed.proofs.tally.Tally.put_counts.Goals as goal

pub returns : goal.returns
unfolding counts_text
returns c =
    then _ _ _ c.put_decimal-p.ensures (then _ _ _ c.put_bytes-p.ensures (then _ _ _ c.put_decimal-p-2.ensures c.put_bytes.ensures))
