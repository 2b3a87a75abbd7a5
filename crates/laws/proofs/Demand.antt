-- What every accepted sheet owes: its layout is good, so that the layout's theorem holds of it, and each sentence is carried to the sheet. Assumes nothing.
use Rattle.answer.specs.declared.Refusal.{Refusal}
use Rattle.std.specs.Prelude.{Result, Ok}
use mathlib.Core.Path.{◌≡◌, sym, ap, ◌∙◌}
use mathlib.Core.Bool.{Bool, true, false, not, ◌&&◌}
use mathlib.Core.List.{List}
use Prim.Native.Nat.{ℕ, suc, ◌+◌, ◌-◌, ◌*◌, ◌/◌, ◌%◌, ◌^◌, ◌≤◌, ◌<◌}
use native.Mathlib.Decide.{dec_lt}
use native.Mathlib.Numerals.{add-one}
use native.Mathlib.Omega.{arith}
use lib.Dec.{eqb}
use lib.ListN.{length}
use Rattle.answer.specs.declared.Group.{Group}
use Rattle.answer.specs.Paper.{gives, accepted, says, refuse}
use Rattle.answer.proofs.OneToOne.{says-one}
use Rattle.octets.specs.Octets.{AreBytes}
use Rattle.bits.specs.Bits.{bit}
use Rattle.sheet.specs.Blocks.{field_count}
use Rattle.layout.specs.Layout.{HeaderField, field, start, Filled}
use Rattle.layout.specs.Access as access
use Rattle.layout.specs.Access.{Value, number, bytes, of_bytes, spells, Write, write, apply}
use Rattle.layout.specs.Demand as layout
use Rattle.layout.proofs.Starts.{start-all}
use Rattle.layout.proofs.Filled.{filled-one}
use Rattle.layout.proofs.Indexed.{position-none, position-more}
use Rattle.header.specs.Starts.{header_field_at, header_layout, start_at}
use Rattle.header.specs.Step.{header_bytes}
use Rattle.header.proofs.Starts.{layout-length, layout-field}
use Rattle.header.proofs.HeaderIs.{demanded}
use Rattle.definition.specs.Definition.{Accepted}
use Rattle.definition.proofs.Steps.{five-steps, layout-whole}
use Rattle.template.specs.Template.{TemplateBuilt}
use Rattle.access.specs.Access.{sheet_read, sheet_write_check, sheet_apply}
use Rattle.access.proofs.Locators.{start_is, width_is}
use Rattle.access.proofs.BySheet.{read_is, write-check-is, apply-is}
use Rattle.laws.specs.Fields.{width_at, default_at, fixed_at, OfField, holds}
use Rattle.laws.specs.Demand.{SheetDemand, SheetWriteAccepted, Started}
use Rattle.laws.proofs.Fields.{holds-is, of-field-is}
use Rattle.laws.proofs.Exactly.{exactly}

module _ (s : List ℕ) (ok : Accepted s) where
  owed : layout.Demand (header_layout s)
  owed = demanded s (five-steps s ok).fields (five-steps s ok).header

  -- a write that is accepted is accepted by the layout, and its field is there
  passes-is : (b : List ℕ) (w : Write) → SheetWriteAccepted s b w → access.WriteAccepted (header_layout s) b w
  passes-is b w e = sym (write-check-is s ok (length b) w) ∙ e

  there : (b : List ℕ) (w : Write) → SheetWriteAccepted s b w → w.index < field_count s
  there b w e = (((exactly s).writes_are (length b) w).0 e).1.there

  -- ---- the template

  -- where the last field ends
  end_is : start (header_layout s) (field_count s) ≡ 8 * header_bytes s
  end_is = start-all (header_layout s) (field_count s) (omega (arith, layout-length s)) ∙ layout-whole s ok

  default-is : (i : ℕ) → i < field_count s → (field (header_layout s) i).default ≡ default_at s i
  default-is i h = ap (λ (f : HeaderField). f.default) (layout-field s i h)

  filled_is : {b c : List ℕ} → Started s b c → Filled (header_layout s) (field_count s) b c
  filled_is {b} {c} t = record {
    bytes = t.bytes;
    same_length = t.same_length;
    reads = λ i h. holds-is s ok i h c ∙ t.defaults i h ∙ sym (default-is i h);
    rest = λ k l. t.rest k (rw end_is at l);
  }

  started-is : {b c : List ℕ} → Filled (header_layout s) (field_count s) b c → Started s b c
  started-is {b} {c} f = record {
    bytes = f.bytes;
    same_length = f.same_length;
    defaults = λ i h. sym (holds-is s ok i h c) ∙ f.reads i h ∙ default-is i h;
    rest = λ k l. f.rest k (rw end_is l);
  }

  module _ {b c : List ℕ} {r : Result (Unit {0}) Refusal} (h : header_bytes s ≤ length b) (t : TemplateBuilt s b c r) where
    built : says r ≡ accepted
    built = t.answer ∙ ((exactly s).template-is (length b)).1 (ok, h)

    template-reads : (r ≡ Ok tt) × Started s b c
    template-reads = (says-one r (Ok tt) built, started-is (t.filled built))

    template-only : (d : List ℕ) → Started s b d → d ≡ c
    template-only d st = filled-one (filled_is st) (t.filled built)

  -- ---- sentence by sentence, as in `specs/Demand.antt`

  one_field : (k : ℕ) → k < 8 * header_bytes s → (i : ℕ) × OfField s i k × ((j : ℕ) → OfField s j k → j ≡ i)
  one_field k h =
      let found = owed.one_field k (rw (layout-whole s ok) h) in
      (found.0, (of-field-is s ok found.0 k).0 found.1, λ j p. found.2 j ((of-field-is s ok j k).1 p))

  number-back : (b : List ℕ) (i v : ℕ) → SheetWriteAccepted s b (write i (number v))
      → (j : ℕ) → j < width_at s i → bit (sheet_apply s b (write i (number v))) (start_at s i + j) ≡ v / 2 ^ (width_at s i - suc j) % 2
  number-back b i v e j l =
      let w = write i (number v) in
      let h = there b w e in
      rw (apply-is s ok b w, ← (start_is s i h), ← (width_is s i h)) (owed.number-back b i v (passes-is b w e) j (rw (width_is s i h) l))

  bytes_back : (b : List ℕ) (i : ℕ) (l : List ℕ) → SheetWriteAccepted s b (write i (bytes l)) → (j : ℕ) → j < 8 * length l → bit (sheet_apply s b (write i (bytes l))) (start_at s i + j) ≡ bit l j
  bytes_back b i l e j h =
      let w = write i (bytes l) in
      rw (apply-is s ok b w, ← (start_is s i (there b w e))) (owed.bytes_back b i l (passes-is b w e) j h)

  -- a read of the sheet is one of its layout
  layout-read : (b : List ℕ) (as_bytes : Bool) (i : ℕ) (v : Value) → sheet_read s b as_bytes i ≡ gives v → access.read (header_layout s) b as_bytes i ≡ gives v
  layout-read b as_bytes i v e = sym (read_is s ok b as_bytes i) ∙ e

  module _ (b : List ℕ) (as_bytes : Bool) (i : ℕ) (v : Value) (e : sheet_read s b as_bytes i ≡ gives v) where
    read-there : i < field_count s
    read-there = (((exactly s).reads-are b as_bytes i).0 (v, e)).1.there

    read-holds : spells v ≡ holds s b i
    read-holds = owed.read-says b as_bytes i v (layout-read b as_bytes i v e) ∙ holds-is s ok i read-there b

    write-read-answer : sheet_write_check s (length b) (write i v) ≡ refuse (fixed_at s i && not (eqb (holds s b i) (default_at s i))) Group.Access 5 i
    write-read-answer =
        write-check-is s ok (length b) (write i v)
        ∙ owed.write-read-answer b as_bytes i v (layout-read b as_bytes i v e)
        ∙ rw (holds-is s ok i read-there b, default-is i read-there, ap (λ (f : HeaderField). f.fixed) (layout-field s i read-there))

  number_read : (b : List ℕ) (i v : ℕ) → sheet_read s b false i ≡ gives (number v)
      → (j : ℕ) → j < width_at s i → bit b (start_at s i + j) ≡ v / 2 ^ (width_at s i - suc j) % 2
  number_read b i v e j l =
      let h = read-there b false i (number v) e in
      rw (← (start_is s i h), ← (width_is s i h)) (owed.number_read b i v (layout-read b false i (number v) e) j (rw (width_is s i h) l))

  bytes_read : (b : List ℕ) (i : ℕ) (l : List ℕ) → sheet_read s b true i ≡ gives (bytes l)
      → (8 * length l ≡ width_at s i) × ((j : ℕ) → j < width_at s i → bit l j ≡ bit b (start_at s i + j))
  bytes_read b i l e =
      let h = read-there b true i (bytes l) e in
      rw (start_is s i h, width_is s i h) at (owed.bytes_read b i l (layout-read b true i (bytes l) e))

  -- where there is no such field the write is refused
  write_same : (b : List ℕ) (w : Write) → AreBytes b → spells w.value ≡ holds s b w.index → sheet_apply s b w ≡ b
  write_same b w h same = rw (apply-is s ok b w) (go (dec_lt w.index (field_count s)))
    where
      go : Dec (w.index < field_count s) → apply (header_layout s) b w ≡ b
      go (yes l) = owed.write_same b w h (same ∙ sym (holds-is s ok w.index l b))
      go (no l) = owed.refused-write b w (λ e. l (there b w (write-check-is s ok (length b) w ∙ e)))

  read-after : (b : List ℕ) (w : Write) → sheet_read s (sheet_apply s b w) (of_bytes w.value) w.index ≡ access.read (header_layout s) (apply (header_layout s) b w) (of_bytes w.value) w.index
  read-after b w = rw (apply-is s ok b w) (read_is s ok (apply (header_layout s) b w) (of_bytes w.value) w.index)

  pub demand : SheetDemand s
  demand = record {
    first-start = λ _. position-none (header_field_at s);
    next_start = λ i _. rw add-one at (position-more (header_field_at s) i);
    one_field = one_field;
    in-header = λ i k p. rw (layout-whole s ok) at (owed.in-header i k ((of-field-is s ok i k).1 p));
    template-reads = λ b c r h t. template-reads h t;
    template-only = λ b c d r h t. template-only h t d;
    accepted-writes = λ b w. let is = (exactly s).writes_are (length b) w in (λ e. (is.0 e).1, λ a. is.1 (ok, a));
    accepted-reads = λ b as_bytes i. let is = (exactly s).reads-are b as_bytes i in (λ e. (is.0 e).1, λ r. is.1 (ok, r));
    number-back = number-back;
    bytes_back = bytes_back;
    reads-number = λ b i v e. rw (read-after b (write i (number v))) (owed.reads-number b i v (passes-is b (write i (number v)) e));
    reads_bytes = λ b i l h e. rw (read-after b (write i (bytes l))) (owed.reads_bytes b i l h (passes-is b (write i (bytes l)) e));
    no_other = λ b w k out. rw (apply-is s ok b w) (owed.no_other b w k (λ p. out ((of-field-is s ok w.index k).0 p)));
    refused-write = λ b w never. rw (apply-is s ok b w) (owed.refused-write b w (λ e. never (write-check-is s ok (length b) w ∙ e)));
    read-holds = read-holds;
    number_read = number_read;
    bytes_read = bytes_read;
    write_same = write_same;
    write_read = λ b as_bytes i v h e. write_same b (write i v) h (read-holds b as_bytes i v e);
    write-read-answer = write-read-answer;
    second = λ b w w' same p q. rw (apply-is s ok b w, apply-is s ok b w', apply-is s ok (apply (header_layout s) b w) w') (owed.second b w w' same (passes-is b w p) (passes-is b w' q));
    either_order = λ b w w' other. rw (apply-is s ok b w, apply-is s ok b w', apply-is s ok (apply (header_layout s) b w) w', apply-is s ok (apply (header_layout s) b w') w) (owed.either_order b w w' other);
    same_length = λ b w. rw (apply-is s ok b w) (owed.same_length b w);
    after-header = λ b w h i l. rw (apply-is s ok b w) (owed.after-header b w h i (omega (arith, layout-whole s ok)));
  }
