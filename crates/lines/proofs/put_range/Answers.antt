-- `put_range` meets its contract. Assumes nothing.
use Rattle.text.proofs.Emit.{word, no_words}
use Rattle.lines.proofs.put_range.Goals as goal

pub returns-in-Some : goal.returns-in-Some
returns-in-Some c =
    let is = c.in-Some.is in
    rw is (word _ _ _ c.put_number-p.ensures (word _ _ _ c.put_number.ensures no_words))

pub returns-in-None : goal.returns-in-None
returns-in-None c = rw c.in-None.is no_words
