-- `block_counts` meets its contract. The loop's invariant: the counts are those of the blocks so far. Assumes nothing.
use mathlib.Core.Path.{◌≡◌}
use Rattle.sheet.specs.Blocks.{counts_of}
use Rattle.sheet.proofs.block_counts.Given as goal

abbrev pub invariant-loop-i : goal.invariant-loop-i
invariant-loop-i l = l.all ≡ counts_of l.s l.i
