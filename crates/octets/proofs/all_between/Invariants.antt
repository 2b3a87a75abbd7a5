-- `all_between` meets its contract. The loop's invariant: the part passes exactly where the bytes so far did and the rest does. Assumes nothing.
use Rattle.std.proofs.Common.{◌≡◌, ◌&&◌, drop}
use Rattle.octets.specs.Octets.{all, between}
use Rattle.octets.proofs.all_between.Given as goal

abbrev pub invariant-loop-b : goal.invariant-loop-b
invariant-loop-b l = all (between l.low l.high) l.b-items ≡ (l.ok && all (between l.low l.high) (drop l.b-index l.b-items))
