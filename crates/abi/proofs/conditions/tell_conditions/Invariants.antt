-- `tell_conditions` meets its contract: the loop sets row after row. Its invariant: the entries before k are set. Assumes nothing.
use mathlib.Core.Path.{◌≡◌}
use mathlib.Core.List.{List}
use Prim.Native.Nat.{ℕ}
use Rattle.abi.specs.Told.{rows}
use Rattle.definition.specs.Unchecked.{cond_entry}
use Rattle.abi.specs.Numbers.{no_pairs, pairs_if}
use Rattle.abi.proofs.conditions.tell_conditions.Given as goal

-- a row of the table
abbrev pub entry : List ℕ → ℕ → List (List ℕ)
entry s k = pairs_if s (cond_entry s k)

abbrev pub invariant-loop-k : goal.invariant-loop-k
invariant-loop-k l = l.conditions ≡ rows no_pairs 8 (entry l.d.sheet.now) l.k
