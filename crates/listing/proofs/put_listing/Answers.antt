-- `put_listing` meets its contract: the lines one after another, of an accepted sheet, which has a header, and whose counts are small. Assumes nothing.
use mathlib.Core.Path.{ap, ◌∙◌}
use Prim.Native.Nat.{◌≤◌}
use native.Mathlib.Omega.{arith}
use lib.Seq.{slice}
use Rattle.text.proofs.Emit.{then}
use Rattle.header.specs.declared.Header.{Header}
use Rattle.listing.specs.Listing.{listing}
use Rattle.listing.proofs.Wrote.{header-wrote, fields-wrote, template-wrote, conds-wrote}
use Rattle.listing.proofs.Told.{counts-small}
use Rattle.listing.proofs.put_listing.Goals as goal
use Rattle.listing.proofs.put_listing.Goals.{After-block_counts-n}

-- the counts of an accepted sheet are small
few : (c : After-block_counts-n) → (c.block_counts-n.result.fields ≤ 64) × (c.block_counts-n.result.lengths ≤ 3) × (c.block_counts-n.result.conds ≤ 32)
few c =
    counts-small c.args.d.now.sheet.now c.args.d.now.accepted c.block_counts-n.ensures

pub put_fields-p-requires : goal.put_fields-p-requires
put_fields-p-requires c = (few (goal.at.put_fields-p-requires c).After-block_counts-n).0

pub returns : goal.returns
unfolding listing
returns c =
    let s = c.args.d.now.sheet.now in
    let is = c.args.d.now.header_is in
    let counts = c.block_counts-n.ensures in
    let template = c.part.ensures ∙ ap (λ (h : Header). slice 0 h.len.0 c.args.buf.now) is ∙ c.requires in
    then _ _ _ (header-wrote s _ is c.put_header-p.ensures)
    (then _ _ _ (fields-wrote s _ counts c.put_fields-p.ensures)
    (then _ _ _ (template-wrote s _ template c.put_template-p.ensures)
    (then _ _ _ c.put_slot-p.ensures
    (then _ _ _ c.put_slot-p-2.ensures
    (then _ _ _ c.put_slot-p-3.ensures
    (conds-wrote s _ counts c.put_conds.ensures))))))

pub overflow_add-first : goal.overflow_add-first
overflow_add-first c = omega (arith, few (goal.at.overflow_add-first c).After-block_counts-n)

pub overflow_add-end : goal.overflow_add-end
overflow_add-end c = omega (arith, few (goal.at.overflow_add-end c).After-block_counts-n)
