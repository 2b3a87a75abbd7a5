-- Answers to the goals of `put_conds`.
use mathlib.Core.Path.{refl, sym, ap, ◌∙◌}
use Prim.Native.Nat.{◌+◌}
use Rattle.text.specs.Text.{texts}
use Rattle.text.specs.Output.{emit}
use Rattle.text.proofs.Emit.{texts-none, texts-go}
use Rattle.listing.specs.Listing.{cond_text}
use Rattle.listing.proofs.put_conds.Goals as goal

pub loop-i-init : goal.loop-i-init
loop-i-init c = refl

pub loop-i-preserved : goal.loop-i-preserved
loop-i-preserved c =
    let a = c.args in
    let f = cond_text a.s.now in
    let i = c.loop-i.i in
    ap (emit (texts f (i + 1) a.e)) c.put_cond-p.ensures ∙ sym (texts-go f i a.e c.loop-i-test.true (c.loop-i.out, c.loop-i.p)) ∙ c.loop-i.invariant

pub returns : goal.returns
returns c = sym (texts-none _ _ _ c.loop-i-test.false _) ∙ c.loop-i.invariant
