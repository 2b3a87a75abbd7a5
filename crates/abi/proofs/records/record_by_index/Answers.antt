-- `record_by_index` meets its contract: a locator that is given is of one of 64 fields. Assumes nothing.
use mathlib.Core.Path.{sym, ap, ◌∙◌}
use Rattle.answer.specs.Paper.{says}
use Rattle.abi.proofs.Fields.{index-small}
use Rattle.abi.proofs.records.record_by_index.Goals as goal

pub field_record-requires : goal.field_record-requires
field_record-requires c = index-small _ _ (sym c.locate.ensures ∙ ap says c.in_ok-p.was)
