-- Answers to the goals of `fill`.
use mathlib.Core.Path.{◌≡◌, sym, ap}
use Prim.Native.Nat.{◌*◌, ◌≤◌, ◌<◌}
use native.Mathlib.Omega.{arith}
use lib.ListN.{length}
use Rattle.sheet.specs.Blocks.{field_count}
use Rattle.layout.proofs.Indexed.{position-none, position-more}
use Rattle.layout.proofs.Filled.{filled_none}
use Rattle.header.specs.declared.Header.{Header}
use Rattle.header.specs.Starts.{header_field_at, header_layout, bits_of}
use Rattle.header.proofs.Starts.{field-inside}
use Rattle.definition.proofs.Steps.{few_bytes}
use Rattle.template.proofs.Steps.{fillable, filled_next}
use Rattle.template.proofs.fill.Goals as goal
use Rattle.template.proofs.fill.Goals.{In-loop-i}

pub loop-i-init : goal.loop-i-init
loop-i-init c =
    let a = c.args in
    record { next = sym (position-none _); filled = filled_none (header_layout a.d.now.sheet.now) a.buf.now (λ i. (c.slice_known-1.given i).fits) }

-- there is a field i
there : (c : In-loop-i) → c.loop-i.i < field_count c.args.d.now.sheet.now
there c = omega (arith, ap (λ (h : Header). h.fields) c.args.d.now.header_is)

-- and the buffer, which keeps its length, has room for the header
room : (c : In-loop-i) → bits_of c.args.d.now.sheet.now ≤ 8 * length c.loop-i.buf
room c = omega (arith, c.requires, c.loop-i.invariant.filled.same_length)

pub fill_field-requires : goal.fill_field-requires
fill_field-requires c =
    rw (c.resolved-f.ensures.0, c.block-b.ensures, c.loop-i.invariant.next)
    (fillable c.args.d.now.sheet.now c.args.d.now.accepted c.loop-i.i (there (goal.at.fill_field-requires c).In-loop-i) c.loop-i.buf (room (goal.at.fill_field-requires c).In-loop-i))

pub overflow_add-start : goal.overflow_add-start
overflow_add-start c =
    omega (arith, c.resolved-f.ensures.1, c.loop-i.invariant.next, field-inside c.args.d.now.sheet.now c.loop-i.i (there (goal.at.overflow_add-start c).In-loop-i), few_bytes c.args.d.now.sheet.now c.args.d.now.accepted)

pub loop-i-preserved : goal.loop-i-preserved
loop-i-preserved c =
    let s = c.args.d.now.sheet.now in record {
      next = rw (c.loop-i.invariant.next, c.resolved-f.ensures.0, c.block-b.ensures) (sym (position-more (header_field_at s) c.loop-i.i));
      filled = rw (c.fill_field.ensures, c.resolved-f.ensures.0, c.block-b.ensures, c.loop-i.invariant.next)
          (filled_next s c.args.d.now.accepted c.loop-i.i (there (goal.at.loop-i-preserved c).In-loop-i) c.requires c.loop-i.invariant.filled);
    }

pub returns : goal.returns
returns c =
    let all : c.loop-i.i ≡ field_count c.args.d.now.sheet.now = omega (arith, ap (λ (h : Header). h.fields) c.args.d.now.header_is) in
    rw all at c.loop-i.invariant.filled
