-- `cut` meets its contract: what stands above the bits is shifted out, then what stands below. Assumes nothing.
use native.Mathlib.Omega.{arith}
use Rattle.bits.proofs.Windows.{cut-none, shifted}
use Rattle.bits.proofs.cut.Goals as goal

pub returns-then-w-eq0 : goal.returns-then-w-eq0
returns-then-w-eq0 c = cut-none _ _ _ (omega arith)

pub returns : goal.returns
returns c = let a = c.args in shifted a.x a.skipped a.w (omega arith)
