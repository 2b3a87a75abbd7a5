-- The fields of a sheet, as the laws speak of them: their bits, what they hold in a buffer, and which writes the rules allow. Assumes nothing.
use Rattle.std.specs.Prelude.{◌≡◌, Bool, true, List, ℕ, ◌+◌, ◌≤◌, ◌<◌}
use Rattle.bits.specs.Bits.{value}
use Rattle.sheet.specs.Blocks.{block_at, field_count}
use Rattle.types.specs.Types.{is_slice}
use Rattle.field.specs.Sound.{width_of}
use Rattle.field_blocks.specs.Step.{field_at}
use Rattle.layout.specs.Access.{of_bytes, spells, OfSize, Write}
use Rattle.header.specs.Starts.{default_number, start_at}
use Rattle.header.specs.Step.{header_bytes}

-- field i: how many bits it has from `start_at s i` on, whether it is a byte slice, the number that its default's bits spell, and whether it is fixed
abbrev pub width_at : List ℕ → ℕ → ℕ
width_at s i = width_of (field_at s i)

abbrev pub is_bytes_at : List ℕ → ℕ → Bool
is_bytes_at s i = is_slice (field_at s i).repr

abbrev pub default_at : List ℕ → ℕ → ℕ
default_at s i = default_number (block_at s i) (field_at s i).default

abbrev pub fixed_at : List ℕ → ℕ → Bool
fixed_at s i = (field_at s i).fixed

-- bit k belongs to field i
pub record OfField (s : List ℕ) (i k : ℕ) : Type 0 where
  pub there : i < field_count s
  pub from : start_at s i ≤ k
  pub to : k < start_at s i + width_at s i

-- what field i holds in a buffer: the number that its bits spell, in the order of RFC 791
abbrev pub holds : List ℕ → List ℕ → ℕ → ℕ
holds s b i = value b (start_at s i) (width_at s i)

-- a write that the rules allow in a buffer of n bytes: to a field that there is; the buffer as long as the header; a number to a number, bytes to a byte
-- slice; of the field's size; and to a fixed field no other value than its default
pub record SheetAllowed (s : List ℕ) (n : ℕ) (w : Write) : Type 0 where
  pub there : w.index < field_count s
  pub long : header_bytes s ≤ n
  pub kind : of_bytes w.value ≡ is_bytes_at s w.index
  pub size : OfSize w.value (width_at s w.index)
  pub free : fixed_at s w.index ≡ true → spells w.value ≡ default_at s w.index

-- a read that they allow
pub record SheetReachable (s : List ℕ) (n : ℕ) (as_bytes : Bool) (i : ℕ) : Type 0 where
  pub there : i < field_count s
  pub long : header_bytes s ≤ n
  pub kind : as_bytes ≡ is_bytes_at s i
