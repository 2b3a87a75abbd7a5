-- What exactly step 4 accepts, said of the trees, the fields and their lengths and not of the tests. Assumes nothing.
use Rattle.std.specs.Prelude.{◌≡◌, true, false, List, ℕ, ◌-◌, ◌^◌, ◌≤◌, ◌<◌}
use Rattle.std.specs.Prelude.{Some}
use Rattle.number.specs.Numbers.{max_bytes}
use Rattle.blocks.specs.Layout.{kind_of, kind_l, stated_form, tree_form}
use Rattle.sheet.specs.Blocks.{block_count, block_at}
use Rattle.types.specs.declared.BuiltinTypes.{BuiltinTypes}
use Rattle.types.specs.declared.Arg.{Arg}
use Rattle.field.specs.declared.DefaultVal.{DefaultVal}
use Rattle.field.specs.declared.Field.{Field}
use Rattle.field.specs.Sound.{width_of}
use Rattle.expr.specs.declared.UsableAlgExpr.{UsableAlgExpr}
use Rattle.expr.specs.Forms.{forward}
use Rattle.tree.specs.Stands.{AlgExpr}
use Rattle.tree.specs.IsForm.{IsForm}
use Rattle.slots.specs.Slots.{block_of_slot}
use Rattle.slots.specs.Expresses.{HasTree, Expresses}
use Rattle.length.specs.Named.{field_of_block}

-- the field f serves the expression e in a slot, of a header with so many bytes
pub record Serves (header slot : ℕ) (e : UsableAlgExpr) (f : Field) : Type 0 where
  -- a number of 1 to 64 bits, handed over as it is held, not generated; fixed in slot 0 alone
  pub some_bits : 1 ≤ width_of f
  pub narrow : width_of f ≤ 64
  pub not-generated : f.generate ≡ false
  pub same-type : f.arg ≡ Arg.BuiltinTypes f.repr
  pub no-slice : f.repr ≡ BuiltinTypes.ByteSlice → ⊥
  pub fixed-header : f.fixed ≡ true → slot ≡ 0
  -- the largest value has a length, at most 4,194,303
  pub most : ℕ
  pub most-is : forward e (2 ^ width_of f - 1) ≡ Some most
  pub most-allowed : most ≤ max_bytes
  -- of a header length, the default is a number whose length is the header's at least
  pub enough : slot ≡ 0 → (x usual : ℕ) × (f.default ≡ DefaultVal.Num x) × (forward e x ≡ Some usual) × (header ≤ usual)

pub record LengthsAre (s : List ℕ) (header : ℕ) : Type 0 where
  -- every tree, in an L block of form 6, is one of the five forms
  pub forms : (i : ℕ) → i < block_count s → kind_of (block_at s i) ≡ kind_l → stated_form (block_at s i) ≡ tree_form
      → (t : AlgExpr) × (e : UsableAlgExpr) × HasTree (block_at s i) t × IsForm t e
  -- not both the payload's and the packet's length are given
  pub one_of_two : (i j : ℕ) → block_of_slot s 1 ≡ Some i → block_of_slot s 2 ≡ Some j → ⊥
  -- what the block of a slot expresses, if it expresses anything, a field serves that the block names
  pub used : (slot at : ℕ) → slot < 3 → block_of_slot s slot ≡ Some at → (e : UsableAlgExpr) → Expresses (block_at s at) e
      → (f : Field) × (field_of_block s at ≡ Some f) × Serves header slot e f
