-- `check` meets its contract. The loop's invariant: the blocks so far are counted, and passed. Assumes nothing.
use mathlib.Core.Path.{◌≡◌}
use mathlib.Core.List.{List}
use Prim.Native.Nat.{ℕ}
use Rattle.answer.specs.Paper.{accepted, first}
use Rattle.sheet.specs.declared.Counts.{Counts}
use Rattle.sheet.specs.Blocks.{counts_of}
use Rattle.sheet.specs.Sheet.{block_fault}
use Rattle.sheet.proofs.check.Given as goal

pub record Inv (s : List ℕ) (i : ℕ) (before : Counts) : Type 0 where
  pub counted : before ≡ counts_of s i
  pub ok : first (block_fault s) i ≡ accepted

abbrev pub invariant-loop-i : goal.invariant-loop-i
invariant-loop-i l = Inv l.s l.i l.before
