-- What an accepted sheet says has an answer at every index: each slot with an expression has its largest length, each condition its field, and each of its
-- ranges a first and a last number. Assumes nothing.
use mathlib.Core.Path.{◌≡◌, refl, sym, ap, ◌∙◌}
use mathlib.Core.Bool.{true, true≢false}
use mathlib.Core.List.{List}
use Rattle.std.specs.Prelude.{Option, None, Some}
use Prim.Native.Nat.{ℕ, ◌+◌, ◌^◌, ◌≤◌, ◌<◌}
use native.Mathlib.Decide.{dec_lt, ℕ_discrete}
use native.Mathlib.Omega.{arith}
use lib.Pow.{pow_mono}
use borrow.Author.Tests.{lt-ltb, le-leb, eq-eqb}
use Rattle.number.specs.Numbers.{max_bytes, max_value}
use Rattle.number.proofs.Limits.{no-max-zero, no-max-wide, max-is}
use Rattle.sheet.specs.Blocks.{block_count, block_at, field_count, length_count, cond_count}
use Rattle.sheet.specs.SheetIs.{InOrder}
use Rattle.sheet.proofs.SheetIs.{in_order, laid_out}
use Rattle.field.specs.declared.Field.{Field}
use Rattle.field.specs.Sound.{width_of}
use Rattle.field_blocks.specs.Step.{field_at}
use Rattle.header.specs.Step.{header_bytes}
use Rattle.expr.specs.declared.UsableAlgExpr.{UsableAlgExpr}
use Rattle.slots.specs.declared.LengthField.{LengthField}
use Rattle.slots.specs.Slots.{expr_in, held, held_by, length_field, block_of_slot}
use Rattle.slots.proofs.Expresses.{expresses-is}
use Rattle.length.specs.Step.{largest, used_by, worked, largest_length}
use Rattle.length.proofs.LengthsAre.{largest-is, lengths-are}
use Rattle.bounds.specs.declared.CondBounds.{CondBounds}
use Rattle.bounds.specs.Bounds.{inside, first_last}
use Rattle.bounds.proofs.InNumbers.{clipped-inside, first-last-none}
use Rattle.cond.specs.Ranges.{range_in, or_all, largest_of, clipped_in}
use Rattle.cond.specs.Step.{is_entry, range_numbers}
use Rattle.cond.specs.ConditionsAre.{Entry}
use Rattle.cond.proofs.ConditionsAre.{conditions-are}
use Rattle.definition.specs.declared.CondEntry.{CondEntry}
use Rattle.definition.specs.Definition.{Accepted}
use Rattle.definition.specs.Unchecked.{entry_block, cond_entry, cond_range, on_field, in_block}
use Rattle.definition.proofs.Steps.{five-steps}
use Rattle.answer.specs.Walk.{or_zero}
use Rattle.blocks.specs.Layout.{kind_c, range_count}
use Rattle.blocks.proofs.Told.{few-ranges}

-- a value of a field has at most 64 bits
pub largest-fits : (f : Field) → largest_of f < 2 ^ 64
largest-fits f = by_width (dec_lt 64 (width_of f)) (ℕ_discrete (width_of f) 0)
  where
    by_width : Dec (64 < width_of f) → Dec (width_of f ≡ 0) → or_all (max_value (width_of f)) < 2 ^ 64
    by_width (yes l) d = rw (no-max-wide (width_of f) l) (omega arith)
    by_width (no l) (yes z) = rw (no-max-zero (width_of f) z) (omega arith)
    by_width (no l) (no z) = rw (max-is (width_of f) z (omega arith)) (omega (arith, pow_mono {i = width_of f} {j = 64} (omega arith)))

module _ (s : List ℕ) (ok : Accepted s) where
  -- ---- slots

  pub slot-given : (slot : ℕ) (e : UsableAlgExpr) → slot < 3 → length_field s slot ≡ LengthField.Expr e → (most : ℕ) × (largest_length s slot ≡ Some most) × (most ≤ max_bytes)
  slot-given slot e h = by-block (block_of_slot s slot) refl
    where
      of-expr : (x : Option UsableAlgExpr) → held x ≡ LengthField.Expr e → x ≡ Some e
      of-expr (Some y) q = cc
      of-expr None q = cc

      by-block : (b : Option ℕ) → block_of_slot s slot ≡ b → held_by s b ≡ LengthField.Expr e → (most : ℕ) × (worked largest (used_by s (or_zero b) (held_by s b)) ≡ Some most) × (most ≤ max_bytes)
      by-block (Some at) is q =
          let expressed = (expresses-is (block_at s at) e).0 (of-expr (expr_in (block_at s at)) q) in
          let found = ((lengths-are s (header_bytes s)).0 (five-steps s ok).length).used slot at h is e expressed in
          let serves = found.2 in
          (serves.most, rw (q, found.1) ((largest-is e found.0 serves.most).1 (serves.some_bits, serves.narrow, serves.most-is)), serves.most-allowed)
      by-block None is q = absurd (let z : ◌≡◌ {A = ℕ} 0 1 = cc in omega arith)

  -- ---- conditions

  blocks : InOrder s
  blocks = in_order s (five-steps s ok).sheet

  module _ (k : ℕ) (h : k < cond_count s) where
    abbrev pub block : ℕ
    block = field_count s + length_count s + k

    at_block : entry_block s k ≡ Some block
    unfolding entry_block
    at_block = rw (lt-ltb k (cond_count s) h)

    there : block < block_count s
    there = omega (arith, blocks.no-others)

    is-entry : is_entry (block_at s block) ≡ true
    is-entry = eq-eqb _ kind_c (blocks.c-last block (omega arith) there)

    pub entry : Entry s block
    entry = ((conditions-are s).0 (five-steps s ok).conds).entries block there is-entry

    pub entry-is : cond_entry s k ≡ Some (record { block = block; field = entry.field; ranges = range_count (block_at s block) })
    entry-is = ap (in_block s) at_block ∙ ap (on_field s block) entry.named

    pub entry-given : (c : CondEntry) × (cond_entry s k ≡ Some c)
    entry-given = (record { block = block; field = entry.field; ranges = range_count (block_at s block) }, entry-is)

    pub few-here : range_count (block_at s block) ≤ 24
    few-here = few-ranges (block_at s block) (blocks.c-last block (omega arith) there) (laid_out s (five-steps s ok).sheet block there)

    -- a range's numbers are those of the range cut at the largest value of the field
    pub range-is : (j : ℕ) → j < range_count (block_at s block) → cond_range s k j ≡ first_last (clipped_in (block_at s block) (largest_of (field_at s entry.field)) j)
    unfolding range_numbers
    range-is j l = rw (at_block, is-entry, lt-ltb j (range_count (block_at s block)) l, entry.named)

    pub range-given : (j : ℕ) → j < range_count (block_at s block) → (p : ℕ × ℕ) × (cond_range s k j ≡ Some p)
    range-given j l = rw (range-is j l) (by-numbers (first_last clip) refl)
      where
        clip : CondBounds
        clip = clipped_in (block_at s block) (largest_of (field_at s entry.field)) j

        -- a value of the field lies in the range
        lying : (n : ℕ) × (inside clip n ≡ true) × (n < 2 ^ 64)
        lying =
            let one = entry.held j l in
            let most = largest_of (field_at s entry.field) in (
              one.0,
              rw (clipped-inside (range_in (block_at s block) j) most one.0, one.1.0, le-leb one.0 most one.1.1),
              omega (arith, one.1.1, largest-fits (field_at s entry.field)),
            )

        by-numbers : (x : Option (ℕ × ℕ)) → first_last clip ≡ x → (p : ℕ × ℕ) × (first_last clip ≡ Some p)
        by-numbers (Some p) e = (p, e)
        by-numbers None e = absurd (true≢false (sym lying.1 ∙ first-last-none clip e lying.0 lying.2))
