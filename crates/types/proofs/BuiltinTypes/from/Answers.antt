-- `BuiltinTypes::from` meets its contract: the law of the name that is the same, and that of none. Assumes nothing.
use Rattle.std.proofs.Common.{sym, ◌∙◌, ap, arith, below_more}
use Rattle.octets.specs.Octets.{same}
use Rattle.types.proofs.CodesAndNames.{named, unnamed}
use Rattle.types.proofs.BuiltinTypes.from.Goals as goal

pub loop-t-init : goal.loop-t-init
loop-t-init c k h = absurd (omega arith)

pub returns-then-same_bytes : goal.returns-then-same_bytes
returns-then-same_bytes c = sym (named _ _ (ap (same c.args.value.now) (sym c.to_string.ensures) ∙ sym c.same_bytes.ensures ∙ c.if-same_bytes.true))

pub loop-t-preserved : goal.loop-t-preserved
loop-t-preserved c = below_more _ _ c.loop-t.invariant (ap (same c.args.value.now) (sym c.to_string.ensures) ∙ sym c.same_bytes.ensures ∙ c.if-same_bytes.false)

pub returns : goal.returns
returns c =
    let all = c.loop-t.invariant in
    sym (unnamed _ (all 0 (omega arith)) (all 1 (omega arith)) (all 2 (omega arith)) (all 3 (omega arith)) (all 4 (omega arith)) (all 5 (omega arith)))
