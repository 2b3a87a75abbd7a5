-- `Header::new` meets its contract. The loop's invariant: the fields so far passed, their bits are summed and their keys marked; since they passed
-- header 5, the sum stays far below what 64 bits hold. Assumes nothing.
use mathlib.Core.Path.{◌≡◌}
use mathlib.Core.Bool.{Bool}
use mathlib.Core.List.{List}
use Prim.Native.Nat.{ℕ, ◌/◌, ◌≤◌}
use Rattle.answer.specs.Paper.{accepted, first}
use Rattle.number.specs.Numbers.{max_bytes}
use Rattle.sheet.specs.Blocks.{field_count}
use Rattle.header.specs.Starts.{start_at}
use Rattle.header.specs.Step.{header_fault}
use Rattle.header.proofs.Names.{Marked}
use Rattle.header.proofs.Header.new.Given as goal

pub record Inv (s : List ℕ) (n i bits : ℕ) (keys : List Bool) : Type 0 where
  pub turns : n ≡ field_count s
  pub sum_is : bits ≡ start_at s i
  pub short : bits / 8 ≤ max_bytes
  pub ok : first (header_fault s) i ≡ accepted
  pub marked : Marked s i keys

abbrev pub invariant-loop-i : goal.invariant-loop-i
invariant-loop-i l = Inv l.s l.n l.i l.bits.0 l.keys
