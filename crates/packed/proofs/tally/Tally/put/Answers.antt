-- `Tally::put` meets its contract: the title, the counts, and where something is wrong the first such answer. Assumes nothing.
use Rattle.std.proofs.Common.{sym, eq-eqb, ne_eqb}
use Rattle.text.proofs.Emit.{then, emit-none}
use Rattle.packed.specs.Counted.{tally_text}
use Rattle.packed.proofs.tally.Tally.put.Goals as goal

pub returns-then-self-eq0 : goal.returns-then-self-eq0
unfolding tally_text
returns-then-self-eq0 c =
    rw (eq-eqb _ 0 c.if-self-eq0.true) (then _ _ _ c.put_bytes-p.ensures (then _ _ _ c.put_counts-p.ensures (sym (emit-none _))))

pub returns : goal.returns
unfolding tally_text
returns c =
    rw (ne_eqb _ 0 c.if-self-eq0.false) (then _ _ _ c.put_bytes-p.ensures (then _ _ _ c.put_counts-p.ensures c.put_first.ensures))
