-- `fill` meets its contract. The loop's invariant: the first i fields are filled, and the next starts where they end. Assumes nothing.
use mathlib.Core.Path.{◌≡◌}
use mathlib.Core.List.{List}
use Prim.Native.Nat.{ℕ}
use Rattle.layout.specs.Layout.{Filled}
use Rattle.header.specs.Starts.{header_layout, start_at}
use Rattle.template.proofs.fill.Given as goal

pub record FilledTo (s buf₀ buf : List ℕ) (start i : ℕ) : Type 0 where
  pub next : start ≡ start_at s i
  pub filled : Filled (header_layout s) i buf₀ buf

abbrev pub invariant-loop-i : goal.invariant-loop-i
invariant-loop-i l = FilledTo l.d.sheet.now l.initial.buf l.buf l.start.0 l.i
