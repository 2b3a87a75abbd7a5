-- `put_word` meets its contract: the space, and then the word, are the two as one. Assumes nothing.
use mathlib.Core.List.{[], ◌∷◌}
use Rattle.text.proofs.Emit.{then}
use Rattle.text.proofs.put_word.Goals as goal

pub returns : goal.returns
returns c =
    then (32 ∷ []) _ _ c.put_byte-p.ensures c.put_bytes.ensures
