-- Answers to the goals of `records/tell_fields`.
use mathlib.Core.Path.{sym, ap}
use native.Mathlib.Omega.{arith}
use Rattle.layout.proofs.Indexed.{position-none, position-more}
use Rattle.header.specs.declared.Header.{Header}
use Rattle.header.specs.Starts.{header_field_at}
use Rattle.abi.specs.Told.{zeros}
use Rattle.abi.proofs.Rows.{rows_none, rows_more}
use Rattle.abi.proofs.Fields.{few-fields}
use Rattle.abi.proofs.records.tell_fields.Invariants.{row}
use Rattle.abi.proofs.records.tell_fields.Goals as goal

pub loop-i-init : goal.loop-i-init
loop-i-init c =
    let d = c.args.d.now in
    let s = d.sheet.now in
    record {
      few = omega (arith, ap (λ (h : Header). h.fields) d.header_is, few-fields s d.accepted);
      done = sym (rows_none (zeros 14) 64 (row s));
      sum = omega (arith, position-none (header_field_at s));
      small = omega arith;
    }

pub loop-i-preserved : goal.loop-i-preserved
loop-i-preserved c =
    let s = c.args.d.now.sheet.now in
    let i = c.loop-i.i in
    let so_far = c.loop-i.invariant in
    let bits = c.bits_in.ensures in
    record {
      few = so_far.few;
      done = rw (so_far.done, c.record_at.ensures) (rows_more (zeros 14) 64 (row s) i (omega (arith, c.loop-i-test.true, so_far.few)));
      sum = rw (so_far.sum, bits.0, c.block.ensures) (sym (position-more (header_field_at s) i));
      small = omega (arith, bits.1, so_far.small);
    }
