-- `reverse_exec` meets its contract: the way back is exact. Assumes nothing.
use Rattle.std.proofs.Common.{rules, Fits, w64}
use Rattle.expr.proofs.WayBack.{back_is}
use Rattle.expr.proofs.UsableAlgExpr.reverse_exec.Goals as goal

pub returns : goal.returns
returns c = let h : Fits w64 c.args.y.0 = search rules in rw c.back.ensures (back_is c.args.self c.args.y.0 h.fits)
