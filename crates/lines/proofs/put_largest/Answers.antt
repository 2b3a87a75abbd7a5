-- `put_largest` meets its contract. Assumes nothing.
use Rattle.text.proofs.Emit.{word, no_words}
use Rattle.lines.proofs.put_largest.Goals as goal

pub returns-in-Some : goal.returns-in-Some
returns-in-Some c = rw c.in-Some.is (word _ _ _ c.put_number.ensures no_words)

pub returns-in-None : goal.returns-in-None
returns-in-None c = rw c.in-None.is no_words
