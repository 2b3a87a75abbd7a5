-- Answers to the goals of `bits_before`.
use mathlib.Core.Path.{sym}
use native.Mathlib.Omega.{arith}
use Rattle.layout.proofs.Indexed.{position-none, position-more}
use Rattle.header.specs.Starts.{header_field_at}
use Rattle.header.proofs.bits_before.Goals as goal

pub loop-i-init : goal.loop-i-init
loop-i-init c = omega (arith, position-none (header_field_at c.args.s.now))

pub loop-i-preserved : goal.loop-i-preserved
loop-i-preserved c =
    let bits = c.bits_in-sum.ensures in (
      rw (c.loop-i.invariant.0, bits.0, c.block.ensures) (sym (position-more (header_field_at c.args.s.now) c.loop-i.i)),
      omega (arith, bits.1),
    )

pub overflow_add-sum : goal.overflow_add-sum
overflow_add-sum c = omega (arith, c.bits_in-sum.ensures.1)
