-- `put_conds` meets its contract. The loop's invariant: the lines that are left, from here on, are all of them from the start. Assumes nothing.
use mathlib.Core.Path.{◌≡◌}
use Rattle.text.specs.Text.{texts}
use Rattle.text.specs.Output.{emit}
use Rattle.listing.specs.Listing.{cond_text}
use Rattle.listing.proofs.put_conds.Given as goal

abbrev pub invariant-loop-i : goal.invariant-loop-i
invariant-loop-i l = emit (texts (cond_text l.s) l.i l.e) (l.out, l.p) ≡ emit (texts (cond_text l.s) l.a l.e) (l.initial.out, l.initial.p)
