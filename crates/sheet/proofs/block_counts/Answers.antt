-- Answers to the goals of `block_counts`.
use mathlib.Core.Path.{ap, ◌∙◌}
use native.Mathlib.Omega.{arith}
use Rattle.blocks.specs.Layout.{kind_of}
use Rattle.sheet.proofs.Blocks.{counts-none, counts-more, counts-le}
use Rattle.sheet.proofs.block_counts.Goals as goal

pub loop-i-init : goal.loop-i-init
loop-i-init c = counts-none _ c.default-all.ensures

pub with-all-requires : goal.with-all-requires
with-all-requires c = omega (arith, counts-le _ c.loop-i.i c.loop-i.invariant)

pub loop-i-preserved : goal.loop-i-preserved
loop-i-preserved c = c.with-all.ensures ∙ counts-more _ c.loop-i.i c.loop-i.invariant (c.kind.ensures ∙ ap kind_of c.block.ensures)
