-- Answers to the goals of `conditions/tell_conditions`.
use mathlib.Core.Path.{sym, ap}
use native.Mathlib.Omega.{arith}
use Rattle.sheet.specs.declared.Counts.{Counts}
use Rattle.abi.specs.Numbers.{no_pairs}
use Rattle.abi.proofs.Rows.{rows_none, rows_more}
use Rattle.abi.proofs.Fields.{few-conds}
use Rattle.abi.proofs.conditions.tell_conditions.Invariants.{entry}
use Rattle.abi.proofs.conditions.tell_conditions.Goals as goal

pub loop-k-init : goal.loop-k-init
loop-k-init c = sym (rows_none no_pairs 8 (entry c.args.d.now.sheet.now))

pub bounds-conditions-k : goal.bounds-conditions-k
bounds-conditions-k c = omega (arith, c.loop-k-test.true, ap (λ (n : Counts). n.conds) c.block_counts-k-end.ensures, few-conds _ c.args.d.now.accepted)

pub offset_bounds-conditions-k : goal.offset_bounds-conditions-k
offset_bounds-conditions-k c = omega (arith, c.loop-k-test.true, ap (λ (n : Counts). n.conds) c.block_counts-k-end.ensures, few-conds _ c.args.d.now.accepted)

pub loop-k-preserved : goal.loop-k-preserved
loop-k-preserved c =
    rw (c.loop-k.invariant, c.condition.ensures)
    (rows_more no_pairs 8 (entry c.args.d.now.sheet.now) c.loop-k.k (omega (arith, c.loop-k-test.true, ap (λ (n : Counts). n.conds) c.block_counts-k-end.ensures, few-conds _ c.args.d.now.accepted)))
