-- What a caller gets from the contracts of `template`, `access` and `locator` alone, on any bytes as a sheet. Of answers, and of the buffer c that an entry
-- leaves of the buffer b, the sentences know what the contracts say, and nothing else. `proofs/Entries.antt` shows it of all bytes. Assumes nothing.
use Rattle.std.specs.Prelude.{◌≡◌, true, false, List, [], ◌↔◌, ℕ, ◌+◌, ◌/◌, ◌<◌, length, replicate, Result, Ok, Err}
use Rattle.std.proofs.Math.Seq.{slice}
use Rattle.answer.specs.declared.Refusal.{Refusal}
use Rattle.answer.specs.Paper.{says}
use Rattle.octets.specs.Octets.{AreBytes}
use Rattle.blocks.specs.Layout.{stated_default_kind, stated_count, stated_bytes_at}
use Rattle.sheet.specs.Blocks.{block_at, field_count}
use Rattle.layout.specs.Access.{Value, number, bytes, Write, write}
use Rattle.definition.specs.Definition.{Accepted}
use Rattle.template.specs.Template.{TemplateBuilt}
use Rattle.locator.specs.declared.Locator.{Locator}
use Rattle.locator.specs.Locator.{reach_at, read_at, WrittenAt, number_answer_says, part_of}
use Rattle.access.specs.Access.{sheet_reach, sheet_read, SheetWritten, locator_in}
use Rattle.laws.specs.Fields.{width_at, is_bytes_at, default_at}

pub record EntriesOwe (s : List ℕ) : Type 0 where
  -- ---- `build_header_template`

  -- after an accepted template a number field reads as its default
  pub default-comes-back : (b c : List ℕ) (i : ℕ) (n : Result ℕ Refusal) → TemplateBuilt s b c (Ok tt) → i < field_count s → is_bytes_at s i ≡ false
      → number_answer_says n ≡ sheet_read s c false i → n ≡ Ok (default_at s i)
  -- a field whose block states bytes as its default (kind 2) reads as these bytes
  pub stated-bytes-come-back : (b c : List ℕ) (i : ℕ) (part : List ℕ) → AreBytes s → TemplateBuilt s b c (Ok tt) → i < field_count s
      → stated_default_kind (block_at s i) ≡ 2 → part ≡ part_of (sheet_read s c true i)
      → part ≡ slice stated_bytes_at (stated_bytes_at + stated_count (block_at s i)) (block_at s i)
  -- and any other byte slice, whose default is then absent, as zeros, as many as it has bytes
  pub zeros-come-back : (b c : List ℕ) (i : ℕ) (part : List ℕ) → TemplateBuilt s b c (Ok tt) → i < field_count s → is_bytes_at s i ≡ true
      → (stated_default_kind (block_at s i) ≡ 2 → ⊥) → part ≡ part_of (sheet_read s c true i) → part ≡ replicate (width_at s i / 8) 0
  -- a refused template leaves the buffer as it was
  pub refused-template : (b c : List ℕ) (r : Refusal) → TemplateBuilt s b c (Err r) → c ≡ b
  -- ---- `write_number` and `write_bytes`, then `read_number` and `read_bytes`

  -- what an accepted write wrote is read again
  pub number-comes-back : (b c : List ℕ) (i v : ℕ) (n : Result ℕ Refusal) → SheetWritten s b c (write i (number v)) (Ok tt)
      → number_answer_says n ≡ sheet_read s c false i → n ≡ Ok v
  pub bytes-come-back : (b c : List ℕ) (i : ℕ) (l part : List ℕ) → AreBytes l → SheetWritten s b c (write i (bytes l)) (Ok tt)
      → part ≡ part_of (sheet_read s c true i) → part ≡ l
  -- a refused write leaves the buffer as it was
  pub refused-writing : (b c : List ℕ) (w : Write) (r : Refusal) → SheetWritten s b c w (Err r) → c ≡ b
  -- ---- `read_bytes` beside `can_read_bytes`

  -- the part is empty exactly where the other refuses
  pub empty-part : (b : List ℕ) (i : ℕ) (part : List ℕ) (r : Result (Unit {0}) Refusal) → part ≡ part_of (sheet_read s b true i) → says r ≡ sheet_reach s (length b) true i
      → (part ≡ []) ↔ ((reason : Refusal) × (r ≡ Err reason))
  -- ---- `locate`, and what is done at a locator

  -- there is a locator exactly where the sheet is accepted and has the field
  pub located : (i : ℕ) (q : Result Locator Refusal) → says q ≡ locator_in s i → ((p : Locator) × (q ≡ Ok p)) ↔ (Accepted s × (i < field_count s))
  -- at the locator of field i every entry promises what it does by sheet and index
  pub number-there : (i : ℕ) (p : Locator) (b : List ℕ) (n : Result ℕ Refusal) → says (Ok p) ≡ locator_in s i
      → number_answer_says n ≡ read_at p b false → number_answer_says n ≡ sheet_read s b false i
  pub bytes-there : (i : ℕ) (p : Locator) (b part : List ℕ) → says (Ok p) ≡ locator_in s i
      → part ≡ part_of (read_at p b true) → part ≡ part_of (sheet_read s b true i)
  pub reach-there : (i : ℕ) (p : Locator) (b : List ℕ) (r : Result (Unit {0}) Refusal) → says (Ok p) ≡ locator_in s i
      → says r ≡ reach_at p (length b) true → says r ≡ sheet_reach s (length b) true i
  pub written-there : (i : ℕ) (p : Locator) (b c : List ℕ) (v : Value) (r : Result (Unit {0}) Refusal) → says (Ok p) ≡ locator_in s i
      → WrittenAt p b c v r → SheetWritten s b c (write i v) r
  -- where there is none, every entry by sheet and index refuses for the same reason
  pub no_number : (i : ℕ) (reason : Refusal) (b : List ℕ) (n : Result ℕ Refusal) → says (Err reason) ≡ locator_in s i
      → number_answer_says n ≡ sheet_read s b false i → n ≡ Err reason
  pub no_bytes : (i : ℕ) (reason : Refusal) (b : List ℕ) (r : Result (Unit {0}) Refusal) → says (Err reason) ≡ locator_in s i
      → says r ≡ sheet_reach s (length b) true i → r ≡ Err reason
  pub no_write : (i : ℕ) (reason : Refusal) (b c : List ℕ) (v : Value) (r : Result (Unit {0}) Refusal) → says (Err reason) ≡ locator_in s i
      → SheetWritten s b c (write i v) r → r ≡ Err reason
