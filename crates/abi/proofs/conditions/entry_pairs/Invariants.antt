-- `entry_pairs` meets its contract: the loop sets row after row. Its invariant: with the first row set, the ranges before j are. Assumes nothing.
use mathlib.Core.Path.{◌≡◌}
use Prim.Native.Nat.{◌+◌}
use Rattle.abi.specs.Told.{zeros, rows}
use Rattle.abi.specs.Numbers.{cond_pair}
use Rattle.abi.proofs.conditions.entry_pairs.Given as goal

abbrev pub invariant-loop-j : goal.invariant-loop-j
invariant-loop-j l = l.pairs ≡ rows (zeros 2) 25 (cond_pair l.s l.e) (l.j + 1)
