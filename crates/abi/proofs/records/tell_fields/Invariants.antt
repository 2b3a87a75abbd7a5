-- `tell_fields` meets its contract: the loop sets row after row. Its invariant: of at most 64 fields those before i are set, and field i starts where the sum is, which
-- 64 widths of 32 bits do not overflow. Assumes nothing.
use mathlib.Core.Path.{◌≡◌}
use mathlib.Core.List.{List}
use Prim.Native.Nat.{ℕ, ◌*◌, ◌^◌, ◌≤◌}
use Rattle.header.specs.Starts.{start_at}
use Rattle.access.specs.Access.{locator_of}
use Rattle.abi.specs.Told.{zeros, rows}
use Rattle.abi.specs.Numbers.{field_numbers}
use Rattle.abi.proofs.records.tell_fields.Given as goal

-- a row of the table
abbrev pub row : List ℕ → ℕ → List ℕ
row s i = field_numbers s (locator_of s i)

pub record SetBefore (s : List ℕ) (fields : List (List ℕ)) (start i n : ℕ) : Type 0 where
  pub few : n ≤ 64
  pub done : fields ≡ rows (zeros 14) 64 (row s) i
  pub sum : start ≡ start_at s i
  pub small : start ≤ i * 2 ^ 32

abbrev pub invariant-loop-i : goal.invariant-loop-i
invariant-loop-i l = SetBefore l.d.sheet.now l.fields l.start.0 l.i l.d.header.fields
