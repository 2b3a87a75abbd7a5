-- `total` meets its contract. The loop's invariant: the sum so far is that of the fours so far, of 32 bits each. Assumes nothing.
use Rattle.std.proofs.Common.{◌≡◌, ◌*◌, ◌≤◌, take}
use Rattle.std.specs.List.{sum_by}
use Rattle.blocks.proofs.Summing.{number_of}
use Rattle.blocks.proofs.check.total.Given as goal

abbrev pub invariant-loop-four : goal.invariant-loop-four
invariant-loop-four l = (l.sum ≡ sum_by number_of (take l.four-index l.fours)) × (l.sum ≤ 4294967295 * l.four-index)
