-- Of the sheets that pass step 1, step 2 accepts exactly those of `FieldsAre`: `fields-are`. The F blocks are the first blocks, and of each `field_is` says what
-- passes. Assumes nothing.
use mathlib.Core.Path.{◌≡◌, sym, ◌∙◌}
use mathlib.Core.List.{List}
use mathlib.Core.Logic.{◌↔◌}
use Prim.Native.Nat.{ℕ, ◌+◌, ◌<◌}
use native.Mathlib.Decide.{dec_lt}
use native.Mathlib.Omega.{arith}
use Rattle.answer.specs.Paper.{accepted}
use Rattle.answer.proofs.Chains.{each-is}
use Rattle.blocks.specs.Layout.{kind_f, stated_bits}
use Rattle.sheet.specs.Blocks.{block_count, kind_at, field_count, length_count}
use Rattle.sheet.specs.Sheet.{sheet_check}
use Rattle.sheet.specs.SheetIs.{InOrder}
use Rattle.sheet.proofs.SheetIs.{in_order}
use Rattle.field.proofs.FieldIs.{field_is}
use Rattle.field_blocks.specs.OnBlock.{repr_in, arg_in, default_in, block_check}
use Rattle.field_blocks.specs.Step.{fields_check}
use Rattle.field_blocks.specs.FieldsAre.{FieldStated, FieldsAre}

block-is : (b : List ℕ) (i : ℕ) → (block_check b i ≡ accepted) ↔ FieldStated b
block-is b i = field_is i (stated_bits b) (repr_in b) (arg_in b) (default_in b)

module _ (s : List ℕ) (ok : sheet_check s ≡ accepted) where
  order : InOrder s
  order = in_order s ok

  -- a block is an F exactly where it is one of the first
  among_first : (i : ℕ) → i < block_count s → kind_at s i ≡ kind_f → i < field_count s
  among_first i h e = by_place (dec_lt i (field_count s)) (dec_lt i (field_count s + length_count s))
    where
      by_place : Dec (i < field_count s) → Dec (i < field_count s + length_count s) → i < field_count s
      by_place (yes l) d = l
      by_place (no l) (yes d) = absurd (omega (arith, sym e ∙ order.l-next i (omega arith) d))
      by_place (no l) (no d) = absurd (omega (arith, sym e ∙ order.c-last i (omega arith) h))

  pub fields-are : (fields_check s ≡ accepted) ↔ FieldsAre s
  fields-are = simp (each-is, block-is) (
    λ p. record { each = λ i h e. p i (among_first i h e) },
    λ f i h. f.each i (omega (arith, order.no-others)) (order.f-first i h),
  )
