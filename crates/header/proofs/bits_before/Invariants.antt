-- `bits_before` meets its contract. The loop's invariant: the sum is where field i starts, and 64 widths of 32 bits do not overflow it. Assumes nothing.
use mathlib.Core.Path.{◌≡◌}
use Prim.Native.Nat.{◌*◌, ◌^◌, ◌≤◌}
use Rattle.header.specs.Starts.{start_at}
use Rattle.header.proofs.bits_before.Given as goal

abbrev pub invariant-loop-i : goal.invariant-loop-i
invariant-loop-i l = (l.sum ≡ start_at l.s l.i) × (l.sum ≤ l.i * 2 ^ 32)
