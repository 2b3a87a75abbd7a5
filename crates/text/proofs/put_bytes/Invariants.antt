-- `put_bytes` meets its contract. The loop's invariant: what is left of the bytes, at the cursor, leaves what all of them leave at the start. Assumes nothing.
use Rattle.std.proofs.Common.{◌≡◌, Some, drop}
use Rattle.text.specs.Output.{emit}
use Rattle.text.proofs.put_bytes.Given as goal

abbrev pub invariant-loop-b : goal.invariant-loop-b
invariant-loop-b l = emit (drop l.b-index l.s) (l.out, Some l.at) ≡ emit l.s (l.initial.out, Some l.initial.at)
