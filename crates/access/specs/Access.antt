-- Reads and writes of the fields of a sheet: the sheet's own refusal first, then access 1 to 5 over its header, as `layout` states them. Assumes nothing.
use Rattle.answer.specs.declared.Refusal.{Refusal}
use Rattle.std.specs.Prelude.{◌≡◌, Bool, true, false, List, ℕ, leb, length, Result}
use Rattle.answer.specs.declared.Group.{Group}
use Rattle.answer.specs.Paper.{Answer, gives, Check, says, refuse, ◌and_then◌}
use Rattle.number.specs.declared.Bytes.{Bytes}
use Rattle.bits.specs.declared.BitPos.{BitPos}
use Rattle.sheet.specs.Blocks.{field_count}
use Rattle.types.specs.Types.{is_slice}
use Rattle.field.specs.declared.DefaultVal.{DefaultVal}
use Rattle.field.specs.declared.Field.{Field}
use Rattle.field_blocks.specs.Step.{field_at}
use Rattle.layout.specs.Access.{Value, reach, read, Write, write_check, after, apply}
use Rattle.header.specs.Starts.{header_layout, start_at}
use Rattle.header.specs.Step.{header_bytes}
use Rattle.definition.specs.Definition.{definition_check}
use Rattle.locator.specs.declared.Held.{Held}
use Rattle.locator.specs.declared.Locator.{Locator}

-- whether field i can be read from a buffer of n bytes, as bytes or as a number
unfoldable pub sheet_reach : List ℕ → ℕ → Bool → ℕ → Check
sheet_reach s n as_bytes i = definition_check s and_then reach (header_layout s) n as_bytes i

-- and what it holds
unfoldable pub sheet_read : List ℕ → List ℕ → Bool → ℕ → Answer Value
sheet_read s b as_bytes i = definition_check s and_then read (header_layout s) b as_bytes i

-- whether a write to a buffer of n bytes is accepted
unfoldable pub sheet_write_check : List ℕ → ℕ → Write → Check
sheet_write_check s n w = definition_check s and_then write_check (header_layout s) n w

-- and the buffer after it, in which nothing is changed where it is refused
unfoldable pub sheet_apply : List ℕ → List ℕ → Write → List ℕ
sheet_apply s b w = after (definition_check s) (apply (header_layout s) b w) b

-- the answer to a write, and the buffer b' after it
pub record SheetWritten (s b b' : List ℕ) (w : Write) (r : Result (Unit {0}) Refusal) : Type 0 where
  pub answer : says r ≡ sheet_write_check s (length b) w
  pub bytes : b' ≡ sheet_apply s b w

-- ---- the locator of field i of a sheet: the sheet's own refusal, then access 1

-- of a number field the default is a number
abbrev pub default_or_zero : DefaultVal → ℕ
default_or_zero (DefaultVal.Num n) = n
default_or_zero (DefaultVal.Bool b) = 0
default_or_zero (DefaultVal.Bytes s) = 0

abbrev pub held_of : Bool → Field → Held
held_of true f = Held.Bytes
held_of false f = Held.Number (default_or_zero f.default) f.fixed

-- where a field with this record stands
abbrev pub locator_for : ℕ → Bytes → BitPos → Field → Locator
locator_for i header start f = record { index = i; header = header; run = record { start = start; width = f.width }; held = held_of (is_slice f.repr) f }

abbrev pub locator_of : List ℕ → ℕ → Locator
locator_of s i = locator_for i (record { 0 = header_bytes s }) (record { global = record { 0 = start_at s i } }) (field_at s i)

unfoldable pub locator_check : List ℕ → ℕ → Check
locator_check s i = definition_check s and_then refuse (leb (field_count s) i) Group.Access 1 i

abbrev pub locator_in : List ℕ → ℕ → Answer Locator
locator_in s i = locator_check s i and_then gives (locator_of s i)
