-- Answers to the goals of `all_between`.
use mathlib.Core.Bool.{and_assoc, and-true}
use Rattle.std.proofs.Common.{sym, ap, ◌∙◌, arith}
use Rattle.octets.specs.Octets.{all, all_in, between}
use Rattle.octets.proofs.Octets.{rest_end, rest_more}
use Rattle.octets.proofs.all_between.Goals as goal

pub loop-b-preserved : goal.loop-b-preserved
loop-b-preserved c =
    c.loop-b.invariant ∙ rw (rest_more _ c.part-b-items.result.now c.loop-b.b-index (omega arith)) (simp and_assoc)

pub returns : goal.returns
unfolding all_in
returns c =
    let test = between c.args.low c.args.high in
    let items = c.part-b-items.result.now in
    sym
    (ap (all test) (sym c.part-b-items.ensures) ∙ c.loop-b.invariant
    ∙ rw (rest_end test items c.loop-b.b-index (omega arith)) (and-true _))
