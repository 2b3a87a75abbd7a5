-- Of a sheet that passes step 2 every F block gives its field, and that field is sound. Assumes nothing.
use mathlib.Core.Path.{◌≡◌}
use mathlib.Core.List.{List}
use Prim.Native.Nat.{ℕ, ◌<◌}
use Rattle.answer.specs.Paper.{gives, accepted}
use Rattle.answer.proofs.Chains.{each-passed}
use Rattle.sheet.specs.Blocks.{block_at, field_count}
use Rattle.field.specs.Sound.{Sound}
use Rattle.field.proofs.Sound.{sound}
use Rattle.field_blocks.specs.OnBlock.{repr_in, arg_in, default_in, gen_in, block_check, field_in}
use Rattle.field_blocks.specs.Step.{fields_check, field_at}
use Rattle.blocks.specs.Layout.{stated_bits}

module _ (s : List ℕ) (ok : fields_check s ≡ accepted) (i : ℕ) (h : i < field_count s) where
  block-passed : block_check (block_at s i) i ≡ accepted
  block-passed = each-passed (λ j. block_check (block_at s j) j) (field_count s) ok i h

  pub field-given : field_in (block_at s i) i ≡ gives (field_at s i)
  field-given = rw block-passed

  pub field-sound : Sound (field_at s i)
  field-sound =
      let b = block_at s i in
      sound i (stated_bits b) (repr_in b) (arg_in b) (default_in b) (gen_in b) block-passed
