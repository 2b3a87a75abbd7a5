-- `define` meets its contract: the sheet's own refusal stands, and past it the buffer's room decides. Assumes nothing.
use Rattle.std.proofs.Common.{sym}
use Rattle.std.proofs.lemmas.Result.{err_from_is_err_and}
use Rattle.answer.proofs.Chains.{not-given}
use Rattle.header.specs.Step.{header_of}
use Rattle.definition.specs.Definition.{definition_check}
use Rattle.template.proofs.Built.{built-refused}
use Rattle.listing.proofs.define.Goals as goal

pub returns-in_err-d : goal.returns-in_err-d
returns-in_err-d c =
    let s = c.args.s.now in
    let p = err_from_is_err_and c.from_residual.result c.from_residual.ensures.1 in
    rw (p.1, p.2) (built-refused _ _ _ (not-given (definition_check s) (header_of s) (sym c.in_err-d.ensures)))

pub returns-in_err-build : goal.returns-in_err-build
returns-in_err-build c =
    let p = err_from_is_err_and c.from_residual-in_err-build.result c.from_residual-in_err-build.ensures.1 in
    rw (p.1, p.2) (rw c.in_ok-d.ensures.0 at c.in_err-build.ensures)

pub returns : goal.returns
returns c = (c.in_ok-d.ensures.0, rw c.in_ok-d.ensures.0 at c.in_ok-build.ensures)
