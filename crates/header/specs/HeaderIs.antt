-- What exactly step 3 accepts, said of the fields and not of the tests. Assumes nothing.
use Rattle.std.specs.Prelude.{◌≡◌, List, ℕ, ◌%◌, ◌≤◌, ◌<◌}
use Rattle.number.specs.Numbers.{max_bytes}
use Rattle.bits.specs.Bits.{touched}
use Rattle.sheet.specs.Blocks.{field_count}
use Rattle.types.specs.declared.BuiltinTypes.{BuiltinTypes}
use Rattle.field.specs.Sound.{width_of}
use Rattle.field_blocks.specs.Step.{field_at}
use Rattle.header.specs.Names.{name_at, type_word}
use Rattle.header.specs.Starts.{start_at, bits_of}
use Rattle.header.specs.Step.{header_bytes}

pub record HeaderIs (s : List ℕ) : Type 0 where
  -- no two fields have one name, and none is named `type`
  pub own-names : (i j : ℕ) → i < j → j < field_count s → name_at s i ≡ name_at s j → ⊥
  pub not-type : (i : ℕ) → i < field_count s → name_at s i ≡ type_word → ⊥
  -- a field of up to 64 bits touches at most 8 bytes
  pub eight-bytes : (i : ℕ) → i < field_count s → width_of (field_at s i) ≤ 64 → touched (start_at s i) (width_of (field_at s i)) ≤ 8
  -- a byte slice starts on a byte boundary
  pub on-boundary : (i : ℕ) → i < field_count s → (field_at s i).repr ≡ BuiltinTypes.ByteSlice → start_at s i % 8 ≡ 0
  -- the header is whole bytes, and at most 4,194,303
  pub whole : bits_of s % 8 ≡ 0
  pub most : header_bytes s ≤ max_bytes
