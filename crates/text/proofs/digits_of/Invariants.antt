-- `digits_of` meets its contract. The loop's invariant: the digits of what is left of the number, and those stored, are the number's; and there is room
-- for what is left. Assumes nothing.
use Rattle.std.proofs.Common.{◌≡◌, ◌++◌, ◌^◌, ◌≤◌, ◌<◌, length, drop}
use Rattle.text.specs.Text.{decimal}
use Rattle.text.proofs.digits_of.Given as goal

abbrev pub invariant-loop-i : goal.invariant-loop-i
invariant-loop-i l = (1 ≤ l.i) × (l.left < 10 ^ l.i) × (length l.d ≡ 20) × (decimal l.left ++ drop l.i l.d ≡ decimal l.n)
