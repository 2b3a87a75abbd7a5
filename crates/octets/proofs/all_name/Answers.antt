-- `all_name` meets its contract: it asks the same of each byte. Assumes nothing.
use mathlib.Core.Path.{◌∙◌}
use Rattle.octets.proofs.Octets.{all_alike, from-33-to-126}
use Rattle.octets.proofs.all_name.Goals as goal

pub returns : goal.returns
returns c = c.all_between.ensures ∙ all_alike _ _ from-33-to-126 _ _ _
