-- The fields of a sheet as a list: how many, where each starts, that they lie in the header and one behind the other, with every bit in one of them;
-- and that a start's answer is one. Assumes nothing.
use Rattle.bits.specs.declared.BitPos.{BitPos}
use Rattle.std.specs.Prelude.{Option, Some, None}
use mathlib.Core.Path.{◌≡◌, refl, ap}
use mathlib.Core.List.{List}
use Prim.Native.Nat.{ℕ, ◌+◌, ◌≤◌, ◌<◌}
use lib.ListN.{length}
use Rattle.bits.proofs.Positions.{position-one}
use Rattle.sheet.specs.Blocks.{field_count}
use Rattle.field.specs.Sound.{width_of}
use Rattle.field_blocks.specs.Step.{field_at}
use Rattle.layout.specs.Layout.{field, bits, start, In}
use Rattle.layout.proofs.Starts as places
use Rattle.layout.proofs.Indexed.{position_later, length-listed, field-listed, bits-listed, start-listed}
use Rattle.header.specs.Starts.{header_field_at, header_layout, start_at, bits_of, field_start_says}

module _ (s : List ℕ) where
  pub layout-length : length (header_layout s) ≡ field_count s
  unfolding header_layout
  layout-length = length-listed (header_field_at s) (field_count s)

  pub layout-field : (i : ℕ) → i < field_count s → field (header_layout s) i ≡ header_field_at s i
  unfolding header_layout
  layout-field i h = field-listed (header_field_at s) (field_count s) i h

  pub layout-bits : bits (header_layout s) ≡ bits_of s
  unfolding header_layout
  layout-bits = bits-listed (header_field_at s) (field_count s)

  pub layout-start : (i : ℕ) → i ≤ field_count s → start (header_layout s) i ≡ start_at s i
  unfolding header_layout
  layout-start i h = start-listed (header_field_at s) (field_count s) i h

  -- ---- where they lie

  -- each field ends within the header
  pub field-inside : (i : ℕ) → i < field_count s → start_at s i + width_of (field_at s i) ≤ bits_of s
  field-inside i h = position_later (header_field_at s) i (field_count s) h

  -- two have no bit in common: the earlier ends where the later starts, or before
  pub fields-apart : (i j : ℕ) → i < j → start_at s i + width_of (field_at s i) ≤ start_at s j
  fields-apart i j h = position_later (header_field_at s) i j h

  -- each bit of the header is in one field, and in no other
  pub one_field : (k : ℕ) → k < bits_of s → (i : ℕ) × In (header_layout s) i k × ((j : ℕ) → In (header_layout s) j k → j ≡ i)
  one_field k h = places.one_field (header_layout s) k (rw layout-bits h)

-- ---- one answer: what the program's answer says of a start tells answers apart

pub start-one : (p q : Option BitPos) → field_start_says p ≡ field_start_says q → p ≡ q
start-one (Some p) (Some q) e = ap Some (position-one p q cc)
start-one (Some p) None e = cc
start-one None (Some q) e = cc
start-one None None e = refl
