-- The refusal of any bytes as a sheet has a number of at most 13, and a place of at most the block count: `definition-within`. Of each step it is found by
-- the laws of checks in order. Assumes nothing.
use mathlib.Core.Path.{◌≡◌, refl}
use mathlib.Core.Bool.{Bool, true, false, cond}
use mathlib.Core.List.{List}
use Rattle.std.specs.Prelude.{Option, None, Some}
use Prim.Native.Nat.{ℕ, zero, suc, ◌≤◌, ◌<◌, zero-le}
use native.Mathlib.Nat.{le_refl, le_of_lt}
use native.Mathlib.Omega.{arith}
use lib.Dec.{leb}
use borrow.Author.Tests.{leb-true}
use Rattle.answer.specs.declared.Group.{Group}
use Rattle.answer.specs.Paper.{gives, refused, Check, ◌and_then◌, first}
use Rattle.answer.proofs.Walk.{where_found}
use Rattle.answer.specs.Walk.{or_zero}
use Rattle.blocks.specs.Layout.{is_f}
use Rattle.sheet.specs.Blocks.{block_count, block_at, field_count, is_slot}
use Rattle.sheet.specs.Sheet.{block_fault, sheet_check}
use Rattle.sheet.proofs.Blocks.{count-le}
use Rattle.types.specs.declared.BuiltinTypes.{BuiltinTypes}
use Rattle.types.specs.declared.Arg.{Arg}
use Rattle.field.specs.declared.DefaultVal.{DefaultVal}
use Rattle.field.specs.declared.Field.{Field}
use Rattle.field.specs.Fields.{default_check, field_check}
use Rattle.field_blocks.specs.Step.{fields_check}
use Rattle.header.specs.Step as header
use Rattle.expr.specs.declared.UsableAlgExpr.{UsableAlgExpr}
use Rattle.slots.specs.declared.LengthField.{LengthField}
use Rattle.slots.specs.Slots.{block_of_slot}
use Rattle.length.specs.Named.{field_of_block}
use Rattle.length.specs.Step as length
use Rattle.cond.specs.Step as conds
use Rattle.definition.specs.Definition.{definition_check}

-- a check passes, or refuses with a number of at most 13 and a place of at most m
pub data Within (m : ℕ) : Check → Type 0 where
  passes : {v : Unit {0}} → Within m (gives v)
  stops : {g : Group} {n at : ℕ} → n ≤ 13 → at ≤ m → Within m (refused g n at)

-- ---- one check, and checks in order

module _ {m : ℕ} where
  -- a number that is written out is compared by computing
  pub refused-within : {g : Group} {n at : ℕ} → leb n 13 ≡ true → at ≤ m → Within m (refused g n at)
  refused-within {n = n} h l = stops (leb-true n 13 h) l

  pub cond-within : (test : Bool) (x y : Check) → Within m x → Within m y → Within m (cond test x y)
  cond-within true x y p q = p
  cond-within false x y p q = q

  pub then-within : (x y : Check) → Within m x → Within m y → Within m (x and_then y)
  then-within (gives _) y p q = q
  then-within (refused g n at) y p q = p

  pub first-within : (f : ℕ → Check) (n : ℕ) → ((i : ℕ) → i < n → Within m (f i)) → Within m (first f n)
  unfolding first
  first-within f zero h = passes
  first-within f (suc n) h = then-within (first f n) (f n) (first-within f n (λ i l. h i (omega arith))) (h n (omega arith))

  pub ruleset chains = (passes, refused-within, cond-within, then-within, first-within)

  -- ---- checks by cases

  default-within : (at bits : ℕ) (repr : BuiltinTypes) (arg : Arg) (d : Option (DefaultVal × Bool)) → at ≤ m → Within m (default_check at bits repr arg d)
  default-within at bits repr arg None h = passes
  default-within at bits repr arg (Some (d, fixed)) h = search chains depth 12

  expr-within : (header slot at : ℕ) (e : UsableAlgExpr) (f : Option Field) → at ≤ m → Within m (length.expr_fault header slot at e f)
  unfolding length.length_field_fault length.length_fault
  expr-within header slot at e (Some f) h = search chains depth 12
  expr-within header slot at e None h = search chains

  held-within : (s : List ℕ) (header slot at : ℕ) (held : LengthField) → at ≤ m → Within m (length.held_fault s header slot at held)
  held-within s header slot at LengthField.Absent h = passes
  held-within s header slot at LengthField.Undefined h = passes
  held-within s header slot at (LengthField.Expr e) h = expr-within header slot at e (field_of_block s at) h

  named-within : (s : List ℕ) (i : ℕ) (found : Option ℕ) → i ≤ m → Within m (conds.named_fault s i found)
  unfolding conds.cond_fault
  named-within s i (Some k) h = search chains depth 12
  named-within s i None h = search chains

-- ---- the steps

module _ (s : List ℕ) where
  -- where fields and slots are
  field-place : (i : ℕ) → i < field_count s → i ≤ block_count s
  field-place i h = omega (arith, count-le s is_f (block_count s))

  slot-place : (slot : ℕ) → or_zero (block_of_slot s slot) ≤ block_count s
  slot-place slot = of-block (block_of_slot s slot) refl
    where
      of-block : (b : Option ℕ) → block_of_slot s slot ≡ b → or_zero b ≤ block_count s
      of-block (Some i) e = le_of_lt (where_found (λ j. is_slot slot (block_at s j)) (block_count s) i e).0
      of-block None e = omega arith

  sheet-within : Within (block_count s) (sheet_check s)
  unfolding sheet_check block_fault
  sheet-within = search (chains, zero-le, le_of_lt) depth 12

  fields_within : Within (block_count s) (fields_check s)
  unfolding field_check
  fields_within = search (chains, default-within, field-place) depth 12

  header-within : Within (block_count s) (header.header_check s)
  unfolding header.header_check header.header_fault
  header-within = search (chains, field-place, le_refl) depth 12

  length-within : (h : ℕ) → Within (block_count s) (length.length_check s h)
  unfolding length.length_check
  length-within h = search (chains, held-within, slot-place, le_of_lt, le_refl) depth 12

  conds-within : Within (block_count s) (conds.cond_check s)
  unfolding conds.cond_check
  conds-within = search (chains, named-within, le_of_lt, le_refl) depth 12

  pub definition-within : Within (block_count s) (definition_check s)
  unfolding definition_check
  definition-within = search (chains, sheet-within, fields_within, header-within, length-within, conds-within)
