-- `Locator::read_number` meets its contract: what no run is asked for is not reached, and else the run decides. Assumes nothing.
use Rattle.std.proofs.Common.{sym, ◌∙◌}
use Rattle.std.proofs.lemmas.Result.{err_from_is_err_and}
use Rattle.answer.proofs.Chains.{stand, passed}
use Rattle.locator.specs.Locator.{read_at}
use Rattle.locator.proofs.Reached.{no_number, number-told}
use Rattle.locator.proofs.Locator.read_number.Goals as goal
use Rattle.locator.proofs.Locator.read_number.Goals.{then-holds_no_number+in_ok-reach, else-holds_no_number}

pub returns-in_err-reach : goal.returns-in_err-reach
unfolding read_at
returns-in_err-reach c =
    let p = err_from_is_err_and c.from_residual.result c.from_residual.ensures.1 in rw (p.1, p.2) (sym (stand _ (sym c.in_err-reach.ensures)))

pub returns : goal.returns
returns c =
    rw c.at_field.ensures (elim c.if-holds_no_number.branch [
      | then-holds_no_number+in_ok-reach w ↦ absurd (no_number _ _ (sym c.holds_no_number.ensures ∙ w.if-holds_no_number.true) (passed w.in_ok-reach.was w.reach.ensures))
      | else-holds_no_number w ↦ number-told _ _ (sym c.holds_no_number.ensures ∙ w.if-holds_no_number.false) c.read_number.ensures
    ])
