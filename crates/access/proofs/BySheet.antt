-- The entries by whether the sheet has the field: where it does, reading and writing at its locator is what is owed of the field; where it does not, its
-- refusal stands and nothing is changed. Then: answers that say the same are the same. Assumes nothing.
use Rattle.std.specs.Prelude.{Option, Some, None, Result, Ok, Err}
use mathlib.Core.Path.{◌≡◌, refl, sym, ap, ◌∙◌}
use mathlib.Core.Bool.{Bool, not, beq}
use mathlib.Core.List.{List}
use mathlib.Core.Logic.Iff
use mathlib.Core.Logic.{◌↔◌}
use Prim.Native.Nat.{ℕ, ◌*◌, ◌<◌}
use native.Mathlib.Decide.{dec_lt}
use native.Mathlib.Omega.{arith}
use lib.Dec.{leb, ltb}
use lib.ListN.{length}
use borrow.Author.Tests.{le-leb, lt-leb}
use Rattle.std.specs.Option.{ok_or}
use Rattle.std.specs.Result.{IsErrAnd}
use Rattle.std.proofs.lemmas.Result.{err_from_is_err_and}
use Rattle.answer.specs.declared.AccessFault.{AccessFault}
use Rattle.answer.specs.declared.Group.{Group}
use Rattle.answer.specs.declared.Refusal.{Refusal}
use Rattle.answer.specs.Paper.{Answer, gives, refused, Check, accepted, refusal_says, refuse, ◌and_then◌, says}
use Rattle.answer.proofs.Chains.{and_then-assoc, stand, both_is, refuse-is, given, not-given}
use Rattle.answer.proofs.Tests.{leb-is-not}
use Rattle.answer.proofs.OneToOne.{says-one}
use Rattle.number.specs.declared.Bytes.{Bytes}
use Rattle.bits.specs.declared.BitPos.{BitPos}
use Rattle.bits.specs.Positions.{global_of}
use Rattle.sheet.specs.Blocks.{field_count}
use Rattle.field.specs.declared.Field.{Field}
use Rattle.field_blocks.specs.Step.{field_at}
use Rattle.layout.specs.Layout.{field, bits}
use Rattle.layout.specs.Access.{Value, of_bytes, reach, suit, value_at, read, Write, write, write_check, after, apply}
use Rattle.layout.proofs.Access.{written}
use Rattle.header.specs.Starts.{header_layout, start_at}
use Rattle.header.specs.Step.{header_bytes}
use Rattle.header.proofs.Starts.{layout-length}
use Rattle.definition.specs.Definition.{definition_check, Accepted}
use Rattle.definition.specs.Unchecked.{field_with_start, field_with_start_says}
use Rattle.definition.proofs.Unchecked.{field-given, no_field}
use Rattle.locator.specs.declared.Locator.{Locator}
use Rattle.locator.specs.Locator.{reach_at, write_check_at, read_at, apply_at, WrittenAt}
use Rattle.access.specs.Access.{sheet_reach, sheet_read, sheet_write_check, sheet_apply, SheetWritten, locator_for, locator_of, locator_check, locator_in}
use Rattle.access.proofs.Locators.{reach-same, read_same, write-check-same, apply-same}

-- ---- the locator of a field of an accepted sheet

module _ (s : List ℕ) (i : ℕ) (ok : Accepted s) {n : Option (Field × BitPos)} (said : field_with_start_says n ≡ field_with_start s i) where
  -- as `ok_or` refuses it
  pub locator-none : {e : Refusal} → n ≡ None → ◌≡◌ {A = Result (Field × BitPos) Refusal} (Err e) (ok_or n (Refusal.Access AccessFault.NoSuchField i))
      → ◌≡◌ {A = Answer Locator} (refusal_says e) (locator_in s i)
  unfolding locator_check
  locator-none {e} is told = ap refusal_says no-field ∙ by_count (dec_lt i (field_count s))
    where
      no-field : e ≡ Refusal.Access AccessFault.NoSuchField i
      no-field = cc

      by_count : Dec (i < field_count s) → ◌≡◌ {A = Answer Locator} (refused Group.Access 1 i) (locator_in s i)
      by_count (yes h) = let e = sym (ap field_with_start_says is) ∙ said ∙ field-given s i ok h in cc
      by_count (no h) = rw (ok, le-leb (field_count s) i (omega arith))

  pub locator-at : {f : Field} {start : BitPos} {header : Bytes} {p : Locator} → n ≡ Some (f, start) → header.0 ≡ header_bytes s → p ≡ locator_for i header start f
      → gives p ≡ locator_in s i
  unfolding locator_check
  locator-at {f} {start} {header} {p} is bytes p-is = by_count (dec_lt i (field_count s))
    where
      by_count : Dec (i < field_count s) → gives p ≡ locator_in s i
      by_count (yes h) =
          let e = sym (ap field_with_start_says is) ∙ said ∙ field-given s i ok h in
          let same : ◌≡◌ {A = Field × ℕ} (f, global_of start) (field_at s i, start_at s i) = cc in
          let same-field : f ≡ field_at s i = ap (λ (q : Field × ℕ). q.0) same in
          let same_start : global_of start ≡ start_at s i = ap (λ (q : Field × ℕ). q.1) same in
          rw (ok, lt-leb (field_count s) i h, p-is, same-field, ← same_start, ← bytes)
      by_count (no h) = let e = sym (ap field_with_start_says is) ∙ said ∙ no_field s i (omega arith) in cc

-- what the program was told of a locator: it is that of a field, or the refusal
module _ (s : List ℕ) (i : ℕ) {q : Result Locator Refusal} (e : says q ≡ locator_in s i) where
  pub locator-given : {p : Locator} → q ≡ Ok p → locator_in s i ≡ gives p
  locator-given is = sym e ∙ ap says is

  pub locator-refused : {r : Refusal} → q ≡ Err r → locator_check s i ≡ refusal_says r
  locator-refused is = not-given (locator_check s i) (locator_of s i) (sym e ∙ ap says is)

module _ (s : List ℕ) (i : ℕ) where
  -- ---- what comes after the refusal of the sheet, and after access 1

  -- access 2 and 3
  abbrev rest : ℕ → Bool → Check
  rest n as_bytes =
      refuse (ltb (8 * n) (bits (header_layout s))) Group.Access 2 i
      and_then refuse (not (beq as_bytes (field (header_layout s) i).is_bytes)) Group.Access 3 i

  after-locator : (n : ℕ) (as_bytes : Bool) → sheet_reach s n as_bytes i ≡ (locator_check s i and_then rest n as_bytes)
  unfolding sheet_reach reach locator_check
  after-locator n as_bytes = rw (layout-length s) (sym (and_then-assoc (definition_check s) (refuse (leb (field_count s) i) Group.Access 1 i) (rest n as_bytes)))

  -- a read is one of what can be reached
  pub read-after : (b : List ℕ) (as_bytes : Bool) → sheet_read s b as_bytes i ≡ (sheet_reach s (length b) as_bytes i and_then gives (value_at (header_layout s) b as_bytes i))
  unfolding sheet_read sheet_reach read
  read-after b as_bytes = sym (and_then-assoc (definition_check s) (reach (header_layout s) (length b) as_bytes i) (gives (value_at (header_layout s) b as_bytes i)))

  write-after : (n : ℕ) (v : Value) → sheet_write_check s n (write i v) ≡ (sheet_reach s n (of_bytes v) i and_then suit (field (header_layout s) i) v i)
  unfolding sheet_write_check sheet_reach write_check
  write-after n v = sym (and_then-assoc (definition_check s) (reach (header_layout s) n (of_bytes v) i) (suit (field (header_layout s) i) v i))

  -- ---- no locator: the refusal stands

  pub sheet-refused : {g : Group} {k at : ℕ} → definition_check s ≡ refused g k at → locator_in s i ≡ refused g k at
  unfolding locator_check
  sheet-refused e = rw e

  module _ {g : Group} {k at : ℕ} (e : locator_check s i ≡ refused g k at) where
    pub reach-refused : (n : ℕ) (as_bytes : Bool) → sheet_reach s n as_bytes i ≡ refused g k at
    reach-refused n as_bytes = after-locator n as_bytes ∙ stand (rest n as_bytes) e

    pub read-refused : (b : List ℕ) (as_bytes : Bool) → sheet_read s b as_bytes i ≡ refused g k at
    read-refused b as_bytes = read-after b as_bytes ∙ stand _ (reach-refused (length b) as_bytes)

    write-refused : (n : ℕ) (v : Value) → sheet_write_check s n (write i v) ≡ refused g k at
    write-refused n v = write-after n v ∙ stand _ (reach-refused n (of_bytes v))

-- a refused write changes nothing
pub untouched : (s b : List ℕ) (w : Write) {g : Group} {k at : ℕ} → sheet_write_check s (length b) w ≡ refused g k at → sheet_apply s b w ≡ b
unfolding sheet_write_check sheet_apply apply
untouched s b w {g} {k} {at} = by-verdict (definition_check s)
  where
    by-verdict : (x : Check) → (x and_then write_check (header_layout s) (length b) w) ≡ refused g k at → after x (after (write_check (header_layout s) (length b) w) (written (header_layout s) b w) b) b ≡ b
    by-verdict (gives _) e = rw e
    by-verdict (refused g' k' at') e = refl

pub not_written : (s b : List ℕ) (i : ℕ) (v : Value) (r : Refusal) → locator_check s i ≡ refusal_says r → SheetWritten s b b (write i v) (Err r)
not_written s b i v r e =
    let said = write-refused s i e (length b) v in
    record { answer = sym said; bytes = sym (untouched s b (write i v) said) }

-- so where `?` hands it on
pub handed_on : (s b : List ℕ) (i : ℕ) (v : Value) (q : Result (Unit {0}) Refusal) (r : Refusal) → IsErrAnd q (λ z. z ≡ r) → locator_check s i ≡ refusal_says r → SheetWritten s b b (write i v) q
handed_on s b i v q r h e = let p = err_from_is_err_and q h in rw (p.1, p.2) (not_written s b i v r e)

-- ---- a locator: what is owed of the field

-- on an accepted sheet the rules of its header are all that is left
module _ (s : List ℕ) (ok : Accepted s) where
  pub reach-is : (n : ℕ) (as_bytes : Bool) (i : ℕ) → sheet_reach s n as_bytes i ≡ reach (header_layout s) n as_bytes i
  unfolding sheet_reach
  reach-is n as_bytes i = rw ok

  pub read_is : (b : List ℕ) (as_bytes : Bool) (i : ℕ) → sheet_read s b as_bytes i ≡ read (header_layout s) b as_bytes i
  unfolding sheet_read
  read_is b as_bytes i = rw ok

  pub write-check-is : (n : ℕ) (w : Write) → sheet_write_check s n w ≡ write_check (header_layout s) n w
  unfolding sheet_write_check
  write-check-is n w = rw ok

  pub apply-is : (b : List ℕ) (w : Write) → sheet_apply s b w ≡ apply (header_layout s) b w
  unfolding sheet_apply
  apply-is b w = rw ok

-- it is given exactly where the sheet is accepted and has the field
pub locator-is : (s : List ℕ) (i : ℕ) → (locator_check s i ≡ accepted) ↔ (Accepted s × (i < field_count s))
unfolding locator_check
locator-is s i = simp (both_is, refuse-is, leb-is-not) Iff.rfl

module _ (s : List ℕ) (i : ℕ) {p : Locator} (e : locator_in s i ≡ gives p) where
  found : (locator_check s i ≡ accepted) × (locator_of s i ≡ p)
  found = given (locator_check s i) e

  there : Accepted s × (i < field_count s)
  there = (locator-is s i).0 found.0

  pub reach-there : (n : ℕ) (as_bytes : Bool) → reach_at p n as_bytes ≡ sheet_reach s n as_bytes i
  reach-there n as_bytes = rw (← found.1) (reach-same s there.0 i there.1 n as_bytes ∙ sym (reach-is s there.0 n as_bytes i))

  pub read-there : (b : List ℕ) (as_bytes : Bool) → read_at p b as_bytes ≡ sheet_read s b as_bytes i
  read-there b as_bytes = rw (← found.1) (read_same s there.0 i there.1 b as_bytes ∙ sym (read_is s there.0 b as_bytes i))

  pub write-check-there : (n : ℕ) (v : Value) → write_check_at p n v ≡ sheet_write_check s n (write i v)
  write-check-there n v = rw (← found.1) (write-check-same s there.0 i there.1 n v ∙ sym (write-check-is s there.0 n (write i v)))

  pub apply-there : (b : List ℕ) (v : Value) → apply_at p b v ≡ sheet_apply s b (write i v)
  apply-there b v = rw (← found.1) (apply-same s there.0 i there.1 b v ∙ sym (apply-is s there.0 b (write i v)))

  pub written-there : {b c : List ℕ} {v : Value} {r : Result (Unit {0}) Refusal} → WrittenAt p b c v r → SheetWritten s b c (write i v) r
  written-there {b} {c} {v} w = record { answer = w.answer ∙ write-check-there (length b) v; bytes = w.bytes ∙ apply-there b v }

-- ---- one answer

pub written_one : {s b c d : List ℕ} {w : Write} {q r : Result (Unit {0}) Refusal} → SheetWritten s b c w q → SheetWritten s b d w r → (q ≡ r) × (c ≡ d)
written_one {q = q} {r} x y = (says-one q r (x.answer ∙ sym y.answer), x.bytes ∙ sym y.bytes)
