-- `all_zero` meets its contract: it asks the same of each byte. Assumes nothing.
use mathlib.Core.Path.{◌∙◌}
use Rattle.octets.proofs.Octets.{all_alike, only_zero}
use Rattle.octets.proofs.all_zero.Goals as goal

pub returns : goal.returns
returns c = c.all_between.ensures ∙ all_alike _ _ only_zero _ _ _
