-- `put_hex` meets its contract. The loop's invariant: the hex of what is left of the bytes, at the cursor, leaves what that of all leaves at the start.
-- Assumes nothing.
use Rattle.std.proofs.Common.{◌≡◌, drop}
use Rattle.text.specs.Text.{hex}
use Rattle.text.specs.Output.{emit}
use Rattle.text.proofs.put_hex.Given as goal

abbrev pub invariant-loop-b : goal.invariant-loop-b
invariant-loop-b l = emit (hex (drop l.b-index l.s)) (l.out, l.p) ≡ emit (hex l.s) (l.initial.out, l.initial.p)
