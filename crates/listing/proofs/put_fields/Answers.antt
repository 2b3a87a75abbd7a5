-- Answers to the goals of `put_fields`.
use mathlib.Core.Path.{refl, sym, ap, ◌∙◌}
use Prim.Native.Nat.{◌+◌}
use native.Mathlib.Omega.{arith}
use Rattle.text.specs.Text.{texts}
use Rattle.text.specs.Output.{Output, emit}
use Rattle.text.proofs.Emit.{texts-none, texts-go}
use Rattle.blocks.specs.Layout.{name_of}
use Rattle.field_blocks.specs.OnBlock.{resolved_in}
use Rattle.layout.proofs.Indexed.{position-none, position-more}
use Rattle.header.specs.Starts.{header_field_at}
use Rattle.listing.specs.Listing.{field_text}
use Rattle.listing.proofs.Wrote.{field-wrote}
use Rattle.listing.proofs.put_fields.Goals as goal

pub loop-i-init : goal.loop-i-init
loop-i-init c = record { left = refl; sum = omega (arith, position-none (header_field_at c.args.s.now)); small = omega arith }

pub overflow_add-start : goal.overflow_add-start
overflow_add-start c = omega (arith, c.resolved-f.ensures.1)

pub loop-i-preserved : goal.loop-i-preserved
loop-i-preserved c =
    let a = c.args in
    let s = a.s.now in
    let i = c.loop-i.i in
    let f = c.resolved-f.ensures in
    let b = c.block-b.ensures in
    let o : Output = (c.loop-i.out, c.loop-i.p) in
    let wrote-line = field-wrote s i o c.loop-i.invariant.sum (f.0 ∙ ap resolved_in b) (c.name.ensures ∙ ap name_of b) c.put_field-p.ensures in record {
      left = ap (emit (texts (field_text s) (i + 1) a.n)) wrote-line ∙ sym (texts-go (field_text s) i a.n c.loop-i-test.true o) ∙ c.loop-i.invariant.left;
      sum = rw (c.loop-i.invariant.sum, f.0, b) (sym (position-more (header_field_at s) i));
      small = omega (arith, f.1);
    }

pub returns : goal.returns
returns c = sym (texts-none _ _ _ c.loop-i-test.false _) ∙ c.loop-i.invariant.left
