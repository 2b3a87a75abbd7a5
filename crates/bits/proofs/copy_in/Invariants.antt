-- `copy_in` copies from the front on: the first i bytes are those that were given.
use Rattle.std.proofs.Common.{◌≡◌, length, take}
use Rattle.bits.proofs.copy_in.Given as goal

abbrev pub invariant-loop-i : goal.invariant-loop-i
invariant-loop-i l = (length l.to ≡ length l.bytes) × (take l.i l.to ≡ take l.i l.bytes)
