-- Answers to the goals of `put_bytes`.
use Rattle.std.proofs.Common.{sym, ◌∙◌, arith}
use Rattle.text.proofs.Emit.{emit-full, rest-none, rest-go, rest-stop}
use Rattle.text.proofs.put_bytes.Goals as goal

pub returns-in_err-at : goal.returns-in_err-at
returns-in_err-at c = rw (c.in_err-at.was, c.from_residual.ensures) (sym (emit-full c.args.s.now c.args.out.now))

pub returns-then-out-at : goal.returns-then-out-at
returns-then-out-at c = rw c.in_ok-at.was (sym (rest-stop _ _ c.loop-b-test.true _ _ (omega arith)) ∙ c.loop-b.invariant)

pub loop-b-preserved : goal.loop-b-preserved
loop-b-preserved c = sym (rest-go _ _ c.loop-b-test.true _ _ (omega arith)) ∙ c.loop-b.invariant

pub returns : goal.returns
returns c = rw c.in_ok-at.was (sym (rest-none _ _ c.loop-b-test.false _) ∙ c.loop-b.invariant)
