-- `Bits::holds` meets its contract: nothing is left of a number of w bits once they are shifted out. Assumes nothing.
use Rattle.number.proofs.Limits.{bits-within, wide-within}
use Rattle.number.proofs.Bits.holds.Goals as goal

pub returns-then-w-lt64 : goal.returns-then-w-lt64
returns-then-w-lt64 c = let a = c.args in bits-within a.x a.self.0

pub returns-else-w-lt64 : goal.returns-else-w-lt64
returns-else-w-lt64 c = wide-within c.args.x c.args.self.0 c.ranges.x.fits c.if-w-lt64.false
