-- Answers to the goals of `put_ranges`.
use mathlib.Core.Path.{sym, ap, ◌∙◌}
use Prim.Native.Nat.{ℕ, ◌+◌, ◌-◌}
use native.Mathlib.Omega.{arith}
use Rattle.text.specs.Text.{spaced}
use Rattle.text.specs.Output.{emit}
use Rattle.listing.specs.Listing.{ranges_from}
use Rattle.listing.proofs.Wrote.{ranges-none, ranges-go}
use Rattle.listing.proofs.put_ranges.Goals as goal

pub loop-j-init : goal.loop-j-init
loop-j-init c = ap (λ (k : ℕ). emit (spaced (ranges_from c.args.s.now c.args.i 0 k)) (c.args.out.now, c.args.to)) (omega arith)

pub loop-j-preserved : goal.loop-j-preserved
loop-j-preserved c =
    let a = c.args in
    let s = a.s.now in
    let j = c.loop-j.j in
    let left = spaced (ranges_from s a.i (j + 1) (a.n - (j + 1))) in
    ap (emit left) (c.put_range-p.ensures ∙ rw c.range_numbers.ensures) ∙ sym (ranges-go s a.i j a.n (c.loop-j.out, c.loop-j.p) c.loop-j-test.true) ∙ c.loop-j.invariant

pub returns : goal.returns
returns c = sym (ranges-none _ _ _ _ _ c.loop-j-test.false) ∙ c.loop-j.invariant
