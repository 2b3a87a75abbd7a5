-- What an accepted sheet owes, demand 3 of docs/RULES.md, sentence by sentence: every header bit in one field, the template, the writes that are accepted and what each does. It
-- speaks of RFC 791's bits (`bit`), of the sheet, and of what the contracts of `template` and `access` promise: `TemplateBuilt`, `sheet_read`,
-- `sheet_write_check` and `sheet_apply`. `proofs/Demand.antt` shows it of every accepted sheet. Assumes nothing.
use Rattle.answer.specs.declared.Refusal.{Refusal}
use Rattle.std.specs.Prelude.{◌≡◌, Bool, true, false, not, ◌&&◌, List, ◌↔◌, ℕ, suc, ◌+◌, ◌-◌, ◌*◌, ◌/◌, ◌%◌, ◌^◌, ◌≤◌, ◌<◌, eqb, length, Result, Ok}
use Rattle.answer.specs.declared.Group.{Group}
use Rattle.answer.specs.Paper.{gives, accepted, refuse}
use Rattle.octets.specs.Octets.{AreBytes, byte}
use Rattle.bits.specs.Bits.{bit}
use Rattle.sheet.specs.Blocks.{field_count}
use Rattle.layout.specs.Access.{Value, number, bytes, of_bytes, spells, Write, write}
use Rattle.header.specs.Starts.{start_at}
use Rattle.header.specs.Step.{header_bytes}
use Rattle.template.specs.Template.{TemplateBuilt}
use Rattle.access.specs.Access.{sheet_read, sheet_write_check, sheet_apply}
use Rattle.laws.specs.Fields.{width_at, default_at, fixed_at, OfField, holds, SheetAllowed, SheetReachable}

-- a write that is accepted in a buffer
abbrev pub SheetWriteAccepted : List ℕ → List ℕ → Write → Type 0
SheetWriteAccepted s b w = sheet_write_check s (length b) w ≡ accepted

-- b' is b with the template in front: every field reads as its default, and no bit after the header is changed
pub record Started (s b b' : List ℕ) : Type 0 where
  pub bytes : AreBytes b'
  pub same_length : length b' ≡ length b
  pub defaults : (i : ℕ) → i < field_count s → holds s b' i ≡ default_at s i
  pub rest : (k : ℕ) → 8 * header_bytes s ≤ k → bit b' k ≡ bit b k

pub record SheetDemand (s : List ℕ) : Type 0 where
  -- the first field starts at bit 0, and each other where the one before it ends
  pub first-start : 0 < field_count s → start_at s 0 ≡ 0
  pub next_start : (i : ℕ) → suc i < field_count s → start_at s (suc i) ≡ start_at s i + width_at s i
  -- each header bit belongs to one field, and a field has no other bits
  pub one_field : (k : ℕ) → k < 8 * header_bytes s → (i : ℕ) × OfField s i k × ((j : ℕ) → OfField s j k → j ≡ i)
  pub in-header : (i k : ℕ) → OfField s i k → k < 8 * header_bytes s
  -- the template reads as the defaults: in any buffer long enough it is accepted, and what is left then is the only buffer that reads so
  pub template-reads : (b b' : List ℕ) (r : Result (Unit {0}) Refusal) → header_bytes s ≤ length b → TemplateBuilt s b b' r → (r ≡ Ok tt) × Started s b b'
  pub template-only : (b b' c : List ℕ) (r : Result (Unit {0}) Refusal) → header_bytes s ≤ length b → TemplateBuilt s b b' r → Started s b c → c ≡ b'
  -- exactly the allowed writes are accepted, and exactly the allowed reads
  pub accepted-writes : (b : List ℕ) (w : Write) → SheetWriteAccepted s b w ↔ SheetAllowed s (length b) w
  pub accepted-reads : (b : List ℕ) (as_bytes : Bool) (i : ℕ) → ((v : Value) × (sheet_read s b as_bytes i ≡ gives v)) ↔ SheetReachable s (length b) as_bytes i
  -- each reads back: bit by bit the number's digits, the most significant first, or the bytes' bits
  pub number-back : (b : List ℕ) (i v : ℕ) → SheetWriteAccepted s b (write i (number v))
      → (j : ℕ) → j < width_at s i → bit (sheet_apply s b (write i (number v))) (start_at s i + j) ≡ v / 2 ^ (width_at s i - suc j) % 2
  pub bytes_back : (b : List ℕ) (i : ℕ) (l : List ℕ) → SheetWriteAccepted s b (write i (bytes l))
      → (j : ℕ) → j < 8 * length l → bit (sheet_apply s b (write i (bytes l))) (start_at s i + j) ≡ bit l j
  -- and by a read, which gives what was written
  pub reads-number : (b : List ℕ) (i v : ℕ) → SheetWriteAccepted s b (write i (number v)) → sheet_read s (sheet_apply s b (write i (number v))) (of_bytes (number v)) i ≡ gives (number v)
  pub reads_bytes : (b : List ℕ) (i : ℕ) (l : List ℕ) → AreBytes l → SheetWriteAccepted s b (write i (bytes l))
      → sheet_read s (sheet_apply s b (write i (bytes l))) (of_bytes (bytes l)) i ≡ gives (bytes l)
  -- and alters no other bit
  pub no_other : (b : List ℕ) (w : Write) (k : ℕ) → (OfField s w.index k → ⊥) → bit (sheet_apply s b w) k ≡ bit b k
  -- a refused write changes nothing
  pub refused-write : (b : List ℕ) (w : Write) → (SheetWriteAccepted s b w → ⊥) → sheet_apply s b w ≡ b
  -- a read gives the field's bits: a number whose digits they are, the most significant first, or as many bytes as they are, bit by bit
  pub read-holds : (b : List ℕ) (as_bytes : Bool) (i : ℕ) (v : Value) → sheet_read s b as_bytes i ≡ gives v → spells v ≡ holds s b i
  pub number_read : (b : List ℕ) (i v : ℕ) → sheet_read s b false i ≡ gives (number v)
      → (j : ℕ) → j < width_at s i → bit b (start_at s i + j) ≡ v / 2 ^ (width_at s i - suc j) % 2
  pub bytes_read : (b : List ℕ) (i : ℕ) (l : List ℕ) → sheet_read s b true i ≡ gives (bytes l)
      → (8 * length l ≡ width_at s i) × ((j : ℕ) → j < width_at s i → bit l j ≡ bit b (start_at s i + j))
  -- writing what a field's bits spell changes nothing
  pub write_same : (b : List ℕ) (w : Write) → AreBytes b → spells w.value ≡ holds s b w.index → sheet_apply s b w ≡ b
  -- and so writing what was read; it is accepted, unless the field is fixed and holds another value
  pub write_read : (b : List ℕ) (as_bytes : Bool) (i : ℕ) (v : Value) → AreBytes b → sheet_read s b as_bytes i ≡ gives v → sheet_apply s b (write i v) ≡ b
  pub write-read-answer : (b : List ℕ) (as_bytes : Bool) (i : ℕ) (v : Value) → sheet_read s b as_bytes i ≡ gives v
      → sheet_write_check s (length b) (write i v) ≡ refuse (fixed_at s i && not (eqb (holds s b i) (default_at s i))) Group.Access 5 i
  -- the second of two accepted writes to one field counts
  pub second : (b : List ℕ) (w w' : Write) → w.index ≡ w'.index → SheetWriteAccepted s b w → SheetWriteAccepted s b w' → sheet_apply s (sheet_apply s b w) w' ≡ sheet_apply s b w'
  -- writes to two fields, accepted or refused, number or bytes, end in the same bytes in either order
  pub either_order : (b : List ℕ) (w w' : Write) → (w.index ≡ w'.index → ⊥) → sheet_apply s (sheet_apply s b w) w' ≡ sheet_apply s (sheet_apply s b w') w
  -- bytes after the header never change, nor does their number
  pub same_length : (b : List ℕ) (w : Write) → length (sheet_apply s b w) ≡ length b
  pub after-header : (b : List ℕ) (w : Write) → AreBytes b → (i : ℕ) → header_bytes s ≤ i → byte (sheet_apply s b w) i ≡ byte b i
