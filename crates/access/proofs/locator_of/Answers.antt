-- `locator_of` meets its contract: by whether the sheet has the field. Assumes nothing.
use Rattle.std.proofs.Common.{◌∙◌, ap}
use Rattle.answer.proofs.Chains.{handed}
use Rattle.header.specs.declared.Header.{Header}
use Rattle.access.proofs.BySheet.{locator-none, locator-at}
use Rattle.access.proofs.locator_of.Goals as goal

pub returns-in_err-f : goal.returns-in_err-f
returns-in_err-f c =
    let told = c.in_err-f.ensures in
    handed _ _ c.from_residual.ensures.1 ∙ locator-none _ _ c.args.d.now.accepted c.unchecked_field-found.ensures told.ok_part told.value

pub returns : goal.returns
returns c =
    let d = c.args.d.now in
    locator-at _ _ d.accepted c.unchecked_field-found.ensures c.in_ok-f.ensures.ok_part (ap (λ (h : Header). h.len.0) d.header_is) c.locator_for.ensures
