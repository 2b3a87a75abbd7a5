-- Answers to the goals of `put_hex`.
use Rattle.std.proofs.Common.{sym, ap, ◌∙◌, ◌+◌, drop, arith}
use Rattle.text.specs.Text.{hex}
use Rattle.text.specs.Output.{emit}
use Rattle.text.proofs.Emit.{hex-none, hex-go}
use Rattle.text.proofs.put_hex.Goals as goal

pub loop-b-preserved : goal.loop-b-preserved
loop-b-preserved c =
    let s = c.args.s.now in
    let i = c.loop-b.b-index in
    let digits = rw (c.hex_digit.ensures, c.hex_digit-in-loop-b.ensures) at c.put_bytes-p.ensures in
    ap (emit (hex (drop (i + 1) s))) digits ∙ sym (hex-go s i (omega arith) (c.loop-b.out, c.loop-b.p)) ∙ c.loop-b.invariant

pub returns : goal.returns
returns c = sym (hex-none _ _ c.loop-b-test.false _) ∙ c.loop-b.invariant
