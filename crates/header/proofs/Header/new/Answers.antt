-- Answers to the goals of `Header/new`.
use mathlib.Core.Path.{◌≡◌, sym, ap, ◌∙◌}
use mathlib.Core.List.{List}
use Prim.Native.Nat.{ℕ}
use native.Mathlib.Omega.{arith}
use Rattle.answer.proofs.Chains.{first-none, first_more, passed, handed, stop}
use Rattle.sheet.specs.declared.Counts.{Counts}
use Rattle.blocks.specs.Layout.{name_of, stated_bits}
use Rattle.field.specs.Sound.{width_of}
use Rattle.field_blocks.specs.OnBlock.{resolved_in}
use Rattle.field_blocks.specs.Step.{field_at}
use Rattle.layout.proofs.Indexed.{position-none, position-more}
use Rattle.header.specs.Names.{name_at}
use Rattle.header.proofs.Names.{marked-none, marked_more, unmarked}
use Rattle.header.proofs.Step.{new-stops, last-decides, new-given}
use Rattle.header.proofs.HeaderIs.{short-field}
use Rattle.header.specs.Working.{key_of}
use Rattle.header.proofs.Header.new.Goals as goal
use Rattle.header.proofs.Header.new.Goals.{After-bits_in-width, After-key-k}

pub loop-i-init : goal.loop-i-init
loop-i-init c =
    let turns = ap (λ (k : Counts). k.fields) c.block_counts-n.ensures in
    record { turns = turns; sum_is = sym (position-none _); short = omega arith; ok = first-none _; marked = marked-none _ }

-- the key is that of field i's name
key-is : (c : After-key-k) → c.key-k.result ≡ key_of (name_at c.args.s.now c.loop-i.i)
key-is c = c.key-k.ensures ∙ ap key_of (c.name-called.ensures ∙ ap name_of c.block-b.ensures)

-- the width and the repr are field i's
width_is : (c : After-bits_in-width) → c.bits_in-width.result.0 ≡ width_of (field_at c.args.s.now c.loop-i.i)
width_is c = c.bits_in-width.ensures.0 ∙ ap stated_bits c.block-b.ensures

pub field_fault-requires : goal.field_fault-requires
field_fault-requires c =
    record {
      used_value = c.used_before-used.ensures ∙ rw (c.name-called.ensures, c.block-b.ensures);
      start_value = c.loop-i.invariant.sum_is;
      width_value = width_is (goal.at.field_fault-requires c).After-bits_in-width;
      repr_value = c.repr_of-repr.ensures ∙ ap (λ (b : List ℕ). (resolved_in b).repr) c.block-b.ensures;
      width_bound = omega (arith, c.bits_in-width.ensures.1);
    }

pub returns-in_err-field_fault : goal.returns-in_err-field_fault
returns-in_err-field_fault c =
    handed _ _ c.from_residual.ensures.1
    ∙ sym (new-stops _ c.loop-i.i (omega (arith, c.loop-i-test.true, c.loop-i.invariant.turns)) c.loop-i.invariant.ok (sym c.in_err-field_fault.ensures))

pub loop-i-preserved : goal.loop-i-preserved
loop-i-preserved c =
    let i = c.loop-i.i in
    let ok = passed c.in_ok-field_fault.was c.field_fault.ensures in
    record {
      turns = c.loop-i.invariant.turns;
      sum_is = rw (c.loop-i.invariant.sum_is, width_is (goal.at.loop-i-preserved c).After-bits_in-width) (sym (position-more _ i));
      short = rw (c.loop-i.invariant.sum_is, width_is (goal.at.loop-i-preserved c).After-bits_in-width) (short-field _ i ok);
      ok = first_more _ i c.loop-i.invariant.ok ok;
      marked = marked_more c.loop-i.invariant.marked (key-is (goal.at.loop-i-preserved c).After-key-k);
    }

-- past all fields it is refused exactly where bits are left over
pub returns-in_err-refuse : goal.returns-in_err-refuse
returns-in_err-refuse c =
    let odd = rw (c.is_whole_bytes.ensures, c.block_count-place.ensures) at c.in_err-refuse.ensures in
    stop _ _ _ c.from_residual-in_err-refuse.ensures.1 (odd ∙ sym (last-decides _ c.loop-i.i (omega arith) c.loop-i.invariant.ok c.loop-i.invariant.sum_is))

pub returns : goal.returns
returns c =
    let whole = passed c.in_ok-refuse.was (rw (c.is_whole_bytes.ensures, c.block_count-place.ensures) at c.refuse.ensures) in
    let decides = last-decides _ c.loop-i.i (omega arith) c.loop-i.invariant.ok c.loop-i.invariant.sum_is in
    new-given _ c.loop-i.i (omega arith) c.loop-i.invariant.ok c.loop-i.invariant.sum_is (decides ∙ whole) c.loop-i.invariant.turns c.whole_bytes.ensures

pub used_before-used-requires : goal.used_before-used-requires
used_before-used-requires c = unmarked _ c.loop-i.invariant.marked c.key-k.ensures
