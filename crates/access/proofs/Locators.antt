-- The locators of an accepted sheet: the field stands there, in a header that steps 2 and 3 leave good, so that reading and writing there is reading and writing
-- the field. Assumes nothing.
use mathlib.Core.Path.{◌≡◌, refl, sym, ap}
use mathlib.Core.Bool.{Bool, true, false}
use mathlib.Core.List.{List}
use Prim.Native.Nat.{ℕ, ◌<◌}
use native.Mathlib.Nat.{le_of_lt}
use Rattle.sheet.specs.Blocks.{block_at, field_count}
use Rattle.types.specs.Types.{is_slice}
use Rattle.field.specs.declared.DefaultVal.{DefaultVal}
use Rattle.field.specs.declared.Field.{Field}
use Rattle.field.specs.Sound.{Sound, width_of}
use Rattle.field_blocks.specs.Step.{field_at}
use Rattle.field_blocks.proofs.SoundFields.{field-sound}
use Rattle.layout.specs.Layout.{HeaderField, start, width}
use Rattle.layout.specs.Access.{Value, reach, read, write, write_check, apply}
use Rattle.header.specs.Starts.{default_number, as_header_field, header_layout, start_at}
use Rattle.header.proofs.Starts.{layout-length, layout-field, layout-start}
use Rattle.definition.specs.Definition.{Accepted}
use Rattle.definition.proofs.Steps.{five-steps, layout-whole, good-layout}
use Rattle.locator.specs.Locator.{reach_at, write_check_at, read_at, apply_at}
use Rattle.locator.specs.Stands.{held_if, StandsAt}
use Rattle.locator.proofs.AtField as there
use Rattle.access.specs.Access.{default_or_zero, held_of, locator_of}

-- ---- what a field holds

-- the default of a number field is a number
number-default : (b : List ℕ) (f : Field) → Sound f → is_slice f.repr ≡ false → default_or_zero f.default ≡ default_number b f.default
number-default b f sound no-slice = by_kind f.default refl
  where
    by_kind : (d : DefaultVal) → f.default ≡ d → default_or_zero d ≡ default_number b d
    by_kind (DefaultVal.Num n) e = refl
    by_kind (DefaultVal.Bool t) e = absurd (sound.no-bool-default t e)
    by_kind (DefaultVal.Bytes span) e = let is : is_slice f.repr ≡ true = ap is_slice (sound.bytes-field span e) in cc

held_same : (b : List ℕ) (f : Field) (slice : Bool) → (slice ≡ false → default_or_zero f.default ≡ default_number b f.default) → held_of slice f ≡ held_if slice (as_header_field b f)
held_same b f true default = refl
held_same b f false default = rw (default refl)

-- ---- the locator of field i

-- a field's bits, as the layout has them
pub start_is : (s : List ℕ) (i : ℕ) → i < field_count s → start (header_layout s) i ≡ start_at s i
start_is s i h = layout-start s i (le_of_lt h)

pub width_is : (s : List ℕ) (i : ℕ) → i < field_count s → width (header_layout s) i ≡ width_of (field_at s i)
width_is s i h = ap (λ (f : HeaderField). f.width) (layout-field s i h)

module _ (s : List ℕ) (ok : Accepted s) (i : ℕ) (h : i < field_count s) where
  -- the field stands there
  pub stands : StandsAt (locator_of s i) (header_layout s) i
  stands =
      let f = field_at s i in
      record {
        there = rw (layout-length s) h;
        header = sym (layout-whole s ok);
        start = sym (start_is s i h);
        width = sym (width_is s i h);
        held = rw (layout-field s i h) (held_same (block_at s i) f (is_slice f.repr) (number-default (block_at s i) f (field-sound s (five-steps s ok).fields i h)));
      }

  -- so access 1 to 3, what is read, access 4 and 5 and the buffer after a write are the field's
  pub reach-same : (n : ℕ) (as_bytes : Bool) → reach_at (locator_of s i) n as_bytes ≡ reach (header_layout s) n as_bytes i
  reach-same = there.reach-same (good-layout s ok) stands refl

  pub read_same : (b : List ℕ) (as_bytes : Bool) → read_at (locator_of s i) b as_bytes ≡ read (header_layout s) b as_bytes i
  read_same = there.read_same (good-layout s ok) stands refl

  pub write-check-same : (n : ℕ) (v : Value) → write_check_at (locator_of s i) n v ≡ write_check (header_layout s) n (write i v)
  write-check-same = there.write-check-same (good-layout s ok) stands refl

  pub apply-same : (b : List ℕ) (v : Value) → apply_at (locator_of s i) b v ≡ apply (header_layout s) b (write i v)
  apply-same = there.apply-as (good-layout s ok) stands
