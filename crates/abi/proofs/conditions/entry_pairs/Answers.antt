-- Answers to the goals of `conditions/entry_pairs`.
use mathlib.Core.Path.{◌≡◌, sym, ap, ◌∙◌}
use mathlib.Core.List.{List, [], ◌∷◌}
use Prim.Native.Nat.{ℕ, ◌+◌}
use native.Mathlib.Omega.{arith}
use lib.ListN.{set}
use Rattle.abi.specs.Told.{zeros, rows}
use Rattle.abi.specs.Numbers.{cond_pair, entry_pairs}
use Rattle.abi.proofs.Rows.{rows_none, rows_more}
use Rattle.abi.proofs.Fields.{range-row}
use Rattle.abi.proofs.conditions.entry_pairs.Goals as goal

pub loop-j-init : goal.loop-j-init
loop-j-init c =
    let e = c.args.e in
    let row = cond_pair c.args.s.now e in
    ap (λ (l : List (List ℕ)). set l 0 (e.field ∷ e.ranges ∷ [])) (sym (rows_none (zeros 2) 25 row)) ∙ rows_more (zeros 2) 25 row 0 (omega arith)

pub loop-j-preserved : goal.loop-j-preserved
loop-j-preserved c =
    let s = c.args.s.now in
    let e = c.args.e in
    let j = c.loop-j.j in
    let told = c.range_pair.ensures ∙ sym (range-row s e j) in
    rw (c.loop-j.invariant, told) (rows_more (zeros 2) 25 (cond_pair s e) (j + 1) (omega (arith, c.loop-j-test.true, c.requires)))

pub returns : goal.returns
unfolding entry_pairs
returns c =
    let all : c.loop-j.j + 1 ≡ 1 + c.args.e.ranges = omega (arith, c.loop-j-test.false, c.loop-j.auto.j-end) in
    c.loop-j.invariant ∙ ap (rows (zeros 2) 25 (cond_pair c.args.s.now c.args.e)) all
