-- `unchecked_start` meets its contract: by whether there is such a field. Assumes nothing.
use native.Mathlib.Omega.{arith}
use borrow.Author.Tests.{ltb-true}
use Rattle.answer.proofs.Tests.{both_hold}
use Rattle.header.specs.Starts.{start_of}
use Rattle.header.proofs.unchecked_start.Goals as goal

pub bits_before-requires : goal.bits_before-requires
bits_before-requires c =
    let i = c.args.i in
    omega (arith, ltb-true i 64 (both_hold _ _ c.if-i-block_counts.true).0)

pub returns-then-i-block_counts : goal.returns-then-i-block_counts
unfolding start_of
returns-then-i-block_counts c =
    let there = rw c.block_counts.ensures at c.if-i-block_counts.true in
    rw (c.new.ensures, c.bits_before.ensures, there)

pub returns : goal.returns
unfolding start_of
returns c = let not_there = rw c.block_counts.ensures at c.if-i-block_counts.false in rw not_there
