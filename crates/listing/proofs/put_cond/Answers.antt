-- `put_cond` meets its contract: the line's words, one after another. Assumes nothing.
use Rattle.text.proofs.Emit.{word, ended}
use Rattle.listing.specs.Listing.{cond_text}
use Rattle.listing.proofs.put_cond.Goals as goal

pub returns : goal.returns
unfolding cond_text
returns c =
    let block = c.block-b.ensures in
    ended _ _ _ c.put_bytes-p.ensures
    (word _ _ _ (rw (c.name.ensures, block) at c.put_word-p.ensures)
    (rw (c.range_count.ensures, block) at c.put_ranges-p.ensures))
    c.put_byte.ensures
