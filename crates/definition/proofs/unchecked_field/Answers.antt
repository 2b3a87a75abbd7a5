-- `unchecked_field` meets its contract: its start is where there is such a field. Assumes nothing.
use Rattle.std.proofs.Common.{ap, ◌∙◌}
use Rattle.definition.specs.Unchecked.{field_with_start_says}
use Rattle.definition.proofs.Unchecked.{field-at, field-none}
use Rattle.definition.proofs.unchecked_field.Goals as goal

pub returns-in_err-start : goal.returns-in_err-start
returns-in_err-start c = ap field_with_start_says c.from_residual.ensures ∙ field-none _ _ c.in_err-start.was c.unchecked_start.ensures

pub returns : goal.returns
returns c = field-at _ _ c.in_ok-start.was c.unchecked_start.ensures (rw (← c.block.ensures) c.resolved.ensures.0)
