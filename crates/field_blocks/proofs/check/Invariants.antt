-- `check` meets its contract. The loop's invariant: the fields so far passed. Assumes nothing.
use mathlib.Core.Path.{◌≡◌}
use mathlib.Core.List.{List}
use Prim.Native.Nat.{ℕ}
use Rattle.answer.specs.Paper.{Check, accepted, first}
use Rattle.sheet.specs.Blocks.{block_at}
use Rattle.field_blocks.specs.OnBlock.{block_check}
use Rattle.field_blocks.proofs.check.Given as goal

-- what is said of block i
abbrev pub fault : List ℕ → ℕ → Check
fault s i = block_check (block_at s i) i

abbrev pub invariant-loop-i : goal.invariant-loop-i
invariant-loop-i l = first (fault l.s) l.i ≡ accepted
