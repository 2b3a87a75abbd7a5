-- `entry_block` meets its contract: the C blocks come after all others. Assumes nothing.
use Prim.Native.Nat.{◌≤◌}
use native.Mathlib.Omega.{arith}
use borrow.Author.Tests.{lt-ltb, le-ltb}
use Rattle.sheet.specs.Blocks.{block_count}
use Rattle.sheet.proofs.Blocks.{counts-le}
use Rattle.definition.specs.Unchecked.{entry_block}
use Rattle.definition.proofs.entry_block.Goals as goal
use Rattle.definition.proofs.entry_block.Goals.{After-block_counts-n}

-- there are at most as many of each kind as blocks
few : (c : After-block_counts-n) → (c.block_counts-n.result.fields ≤ block_count c.args.s.now)
    × (c.block_counts-n.result.lengths ≤ block_count c.args.s.now) × (c.block_counts-n.result.conds ≤ block_count c.args.s.now)
few c = counts-le _ _ c.block_counts-n.ensures

pub overflow_add-result : goal.overflow_add-result
overflow_add-result c = omega (arith, few (goal.at.overflow_add-result c).After-block_counts-n)

pub overflow_add-result-then-k-n : goal.overflow_add-result-then-k-n
overflow_add-result-then-k-n c = omega (arith, few (goal.at.overflow_add-result-then-k-n c).After-block_counts-n)

pub returns-then-k-n : goal.returns-then-k-n
unfolding entry_block
returns-then-k-n c =
    rw (c.block_counts-n.ensures, lt-ltb _ _ (rw c.block_counts-n.ensures at c.if-k-n.true))

pub returns : goal.returns
unfolding entry_block
returns c = rw (le-ltb _ _ (rw c.block_counts-n.ensures at c.if-k-n.false))
