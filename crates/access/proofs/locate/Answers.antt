-- `locate` meets its contract: the sheet's own refusal stands. Assumes nothing.
use Rattle.std.proofs.Common.{sym, ◌∙◌}
use Rattle.answer.proofs.Chains.{handed, not-given}
use Rattle.header.specs.Step.{header_of}
use Rattle.definition.specs.Definition.{definition_check}
use Rattle.access.proofs.BySheet.{sheet-refused}
use Rattle.access.proofs.locate.Goals as goal

pub returns-in_err-new : goal.returns-in_err-new
returns-in_err-new c =
    let s = c.args.s.now in
    handed _ _ c.from_residual.ensures.1 ∙ sym (sheet-refused _ _ (not-given (definition_check s) (header_of s) (sym c.in_err-new.ensures)))
