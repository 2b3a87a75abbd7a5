-- `read_number` meets its contract: the number is read at the field's locator. Assumes nothing.
use Rattle.std.proofs.Common.{sym, ◌∙◌}
use Rattle.std.proofs.lemmas.Result.{err_from_is_err_and}
use Rattle.access.proofs.BySheet.{locator-refused, read-refused, read-there}
use Rattle.access.proofs.read_number.Goals as goal

pub returns-in_err-locate : goal.returns-in_err-locate
returns-in_err-locate c =
    let p = err_from_is_err_and c.from_residual.result c.from_residual.ensures.1 in
    rw (p.1, p.2) (sym (read-refused _ _ (locator-refused _ _ c.locate.ensures c.in_err-locate.was) _ _))

pub returns : goal.returns
returns c = c.read_number.ensures ∙ read-there _ _ (sym c.in_ok-locate.ensures) _ _
