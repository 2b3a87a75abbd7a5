-- What a sheet says, by index. Every index has an answer, on any bytes; of an accepted sheet it is what the rules speak of. Assumes nothing.
use Rattle.bits.specs.declared.BitPos.{BitPos}
use Rattle.std.specs.Prelude.{◌≡◌, cond, ◌&&◌, List, ℕ, ◌+◌, ltb, Option, None, Some}
use Rattle.bits.specs.Positions.{global_of}
use Rattle.sheet.specs.Blocks.{block_at, field_count, length_count, cond_count}
use Rattle.field.specs.declared.Field.{Field}
use Rattle.field_blocks.specs.Step.{field_at}
use Rattle.header.specs.Names.{name_at, field_named}
use Rattle.header.specs.Starts.{start_at}
use Rattle.expr.specs.Forms.{length_says}
use Rattle.slots.specs.Slots.{length_field, block_of_slot}
use Rattle.length.specs.Step.{largest_length}
use Rattle.cond.specs.Step.{range_numbers}
use Rattle.definition.specs.declared.LengthSlot.{LengthSlot}
use Rattle.definition.specs.declared.CondEntry.{CondEntry}
use Rattle.answer.specs.Walk.{or_zero}
use Rattle.blocks.specs.Layout.{range_count}

-- ---- field i: its record, and the number of its first bit; a sheet has at most 64 fields

unfoldable pub field_with_start : List ℕ → ℕ → Option (Field × ℕ)
field_with_start s i = cond (ltb i 64 && ltb i (field_count s)) (Some (field_at s i, start_at s i)) None

-- ---- a length slot: what it holds, its block, and the length of its field's largest value

pub record LengthSlotOf (s : List ℕ) (slot : ℕ) (r : LengthSlot) : Type 0 where
  pub held : r.held ≡ length_field s slot
  pub place : r.at ≡ or_zero (block_of_slot s slot)
  pub most : length_says r.largest ≡ largest_length s slot

-- ---- entry k of the conditions: its block, its field, and how many ranges it has; and the first and the last number of each

-- C blocks come after all others
unfoldable pub entry_block : List ℕ → ℕ → Option ℕ
entry_block s k = cond (ltb k (cond_count s)) (Some (field_count s + length_count s + k)) None

abbrev pub on_field : List ℕ → ℕ → Option ℕ → Option CondEntry
on_field s i (Some f) = Some (record { block = i; field = f; ranges = range_count (block_at s i) })
on_field s i None = None

abbrev pub in_block : List ℕ → Option ℕ → Option CondEntry
in_block s (Some i) = on_field s i (field_named s (name_at s i))
in_block s None = None

abbrev pub cond_entry : List ℕ → ℕ → Option CondEntry
cond_entry s k = in_block s (entry_block s k)

abbrev pub range_of_entry : List ℕ → ℕ → Option ℕ → Option (ℕ × ℕ)
range_of_entry s j (Some i) = range_numbers s i j
range_of_entry s j None = None

abbrev pub cond_range : List ℕ → ℕ → ℕ → Option (ℕ × ℕ)
cond_range s k j = range_of_entry s j (entry_block s k)

-- ---- the same of the program's answer, its start by its number

abbrev pub field_with_start_says : Option (Field × BitPos) → Option (Field × ℕ)
field_with_start_says (Some (f, start)) = Some (f, global_of start)
field_with_start_says None = None
