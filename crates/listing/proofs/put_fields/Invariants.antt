-- `put_fields` meets its contract. The loop's invariant: the lines that are left, from here on, are all of them from the start; field i starts where the sum is,
-- which 64 widths of 32 bits do not overflow. Assumes nothing.
use mathlib.Core.Path.{◌≡◌}
use mathlib.Core.List.{List}
use Prim.Native.Nat.{ℕ, ◌*◌, ◌^◌, ◌≤◌}
use Rattle.text.specs.Text.{texts}
use Rattle.text.specs.Output.{Output, emit}
use Rattle.header.specs.Starts.{start_at}
use Rattle.listing.specs.Listing.{field_text}
use Rattle.listing.proofs.put_fields.Given as goal

pub record Listed (s : List ℕ) (n start i : ℕ) (before now : Output) : Type 0 where
  pub left : emit (texts (field_text s) i n) now ≡ emit (texts (field_text s) 0 n) before
  pub sum : start ≡ start_at s i
  pub small : start ≤ i * 2 ^ 32

abbrev pub invariant-loop-i : goal.invariant-loop-i
invariant-loop-i l = Listed l.s l.n l.start.0 l.i (l.initial.out, l.initial.p) (l.out, l.p)
