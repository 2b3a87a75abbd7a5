-- `put_number` meets its contract: the space, and then the number, are the two as one. Assumes nothing.
use mathlib.Core.List.{[], ◌∷◌}
use Rattle.text.proofs.Emit.{then}
use Rattle.text.proofs.put_number.Goals as goal

pub returns : goal.returns
returns c =
    then (32 ∷ []) _ _ c.put_byte-p.ensures c.put_decimal.ensures
