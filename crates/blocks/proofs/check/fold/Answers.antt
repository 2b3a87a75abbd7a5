-- `fold` meets its contract: the law of the case that the test found. Assumes nothing.
use native.Mathlib.Omega.{arith}
use Rattle.blocks.proofs.Folding.{folded-none, folded-some}
use Rattle.blocks.proofs.check.fold.Goals as goal

pub returns-then-t-eq0 : goal.returns-then-t-eq0
returns-then-t-eq0 c = omega (arith, folded-none _ c.if-t-eq0.true)

pub returns : goal.returns
returns c = omega (arith, folded-some _ c.if-t-eq0.false)
