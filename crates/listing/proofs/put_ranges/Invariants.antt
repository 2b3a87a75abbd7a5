-- `put_ranges` meets its contract. The loop's invariant: the ranges that are left, from here on, are all of them from the start. Assumes nothing.
use mathlib.Core.Path.{◌≡◌}
use Prim.Native.Nat.{◌-◌}
use Rattle.text.specs.Text.{spaced}
use Rattle.text.specs.Output.{emit}
use Rattle.listing.specs.Listing.{ranges_from}
use Rattle.listing.proofs.put_ranges.Given as goal

abbrev pub invariant-loop-j : goal.invariant-loop-j
invariant-loop-j l = emit (spaced (ranges_from l.s l.i l.j (l.n - l.j))) (l.out, l.p) ≡ emit (spaced (ranges_from l.s l.i 0 l.n)) (l.initial.out, l.initial.p)
