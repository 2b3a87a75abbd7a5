-- `build_header_template` meets its contract: the sheet's own refusal stands, and past it the buffer's room decides. Assumes nothing.
use Rattle.std.proofs.Common.{sym}
use Rattle.std.proofs.lemmas.Result.{err_from_is_err_and}
use Rattle.answer.proofs.Chains.{not-given}
use Rattle.header.specs.Step.{header_of}
use Rattle.definition.specs.Definition.{definition_check}
use Rattle.template.proofs.Built.{built-refused}
use Rattle.template.proofs.build_header_template.Goals as goal

pub returns-in_err-new : goal.returns-in_err-new
returns-in_err-new c =
    let s = c.args.s.now in
    let p = err_from_is_err_and c.from_residual.result c.from_residual.ensures.1 in
    rw (p.1, p.2) (built-refused _ _ _ (not-given (definition_check s) (header_of s) (sym c.in_err-new.ensures)))

pub returns : goal.returns
returns c = rw c.in_ok-new.ensures.0 at c.build.ensures
