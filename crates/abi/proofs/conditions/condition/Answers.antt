-- `condition` meets its contract: an entry has at most 24 ranges. Assumes nothing.
use mathlib.Core.Path.{sym, ◌∙◌}
use Rattle.abi.proofs.Fields.{entry-few}
use Rattle.abi.proofs.conditions.condition.Goals as goal

pub entry_pairs-requires : goal.entry_pairs-requires
entry_pairs-requires c = entry-few _ c.args.d.now.accepted _ (sym c.unchecked_cond_entry.ensures ∙ c.in-Some.is)
