-- What is owed to a caller of the entries, by their contracts alone. What was written, and what the template left, is read by the laws of `Demand`: the bits spell
-- it, and as many bytes that spell the same are the same. What is done at a locator is done by sheet and index (`access`). Assumes nothing.
use Rattle.std.specs.Prelude.{Result, Ok, Err}
use mathlib.Core.Path.{◌≡◌, refl, sym, ap, ◌∙◌}
use mathlib.Core.Bool.{Bool, true, false, cond, not}
use mathlib.Core.List.{List, []}
use mathlib.Core.Logic.{◌↔◌}
use Prim.Native.Nat.{ℕ, ◌+◌, ◌*◌, ◌/◌, ◌≤◌, ◌<◌}
use native.Mathlib.Nat.{zero-add, zero-div, zero-mod}
use native.Mathlib.Omega.{arith}
use lib.Dec.{eqb, lit<}
use lib.ListN.{length, take, drop, replicate, length-replicate}
use lib.Seq.{slice, length-slice}
use borrow.Author.Tests.{ne_eqb}
use Rattle.answer.specs.declared.Group.{Group}
use Rattle.answer.specs.declared.Refusal.{Refusal}
use Rattle.answer.specs.Paper.{gives, accepted, refusal_says, says, refuse}
use Rattle.answer.proofs.Chains.{stand, both_is, refuse-is, never-given, given, each-passed}
use Rattle.answer.proofs.Tests.{not_is, eqb_is}
use Rattle.answer.proofs.OneToOne.{says-one}
use Rattle.octets.specs.Octets.{AreBytes}
use Rattle.octets.proofs.Octets.{bytes_take, bytes_drop, bytes-slice, zeros}
use Rattle.bits.specs.Bits.{bit, spelled}
use Rattle.bits.proofs.Num.{num-at}
use Rattle.bits.proofs.Bits.{bit-lt, bits-ext, spelled-ext}
use Rattle.blocks.specs.Layout.{stated_bits, stated_default_kind, stated_number, stated_count, stated_bytes_at}
use Rattle.sheet.proofs.Blocks.{block-bytes}
use Rattle.sheet.specs.Blocks.{block_at, field_count}
use Rattle.types.proofs.CodesAndNames.{slice-holds-is}
use Rattle.field.specs.declared.Span.{Span}
use Rattle.field.specs.declared.DefaultVal.{DefaultVal}
use Rattle.field.specs.Fields.{no_bytes, is_bool_arg, field_check}
use Rattle.field.specs.Sound.{Sound}
use Rattle.field_blocks.specs.OnBlock.{block_check}
use Rattle.field_blocks.specs.Step.{field_at}
use Rattle.field_blocks.proofs.SoundFields.{field-sound}
use Rattle.layout.specs.Layout.{start, width}
use Rattle.layout.specs.Access.{Value, number, bytes, Write, write}
use Rattle.header.specs.Starts.{header_layout}
use Rattle.header.specs.Step.{header_bytes}
use Rattle.definition.specs.Definition.{Accepted}
use Rattle.definition.proofs.Steps.{five-steps, whole-bytes}
use Rattle.template.specs.Template.{TemplateBuilt}
use Rattle.template.proofs.Filling.{none-stated}
use Rattle.template.proofs.Steps.{fillable}
use Rattle.locator.specs.declared.Locator.{Locator}
use Rattle.locator.specs.Locator.{number_answer_says, part_of}
use Rattle.locator.proofs.Reached.{number-answer-one}
use Rattle.access.specs.Access.{sheet_reach, sheet_read, SheetWritten, locator_of, locator_check, locator_in}
use Rattle.access.proofs.BySheet as by-sheet
use Rattle.laws.specs.Fields.{width_at, is_bytes_at, default_at, SheetReachable}
use Rattle.laws.specs.Demand.{SheetDemand, Started}
use Rattle.laws.specs.Entries.{EntriesOwe}
use Rattle.laws.proofs.Exactly.{exactly}
use Rattle.laws.proofs.Demand.{demand}

-- ---- bytes that spell 0 are zeros

spell-zero : (l : List ℕ) (n : ℕ) → AreBytes l → length l ≡ n → spelled l ≡ 0 → l ≡ replicate n 0
unfolding bit
spell-zero l n h count none =
    bits-ext l (replicate n 0) h (λ i. rw (zeros n i) (lit< tt)) (count ∙ sym (length-replicate n 0)) (λ k inside. sym (at_zero k inside) ∙ sym (of-zeros k))
  where
    at_zero : (k : ℕ) → k < 8 * length l → 0 ≡ bit l k
    at_zero k inside = rw (none, zero-div, zero-mod, zero-add) at (num-at (bit l) (bit-lt l) 0 (8 * length l) k inside)

    of-zeros : (k : ℕ) → bit (replicate n 0) k ≡ 0
    of-zeros k = rw (zeros n (k / 8), zero-div) (zero-mod 2)

module _ (s : List ℕ) where
  -- ---- the part of a buffer that a byte slice is

  module _ (ok : Accepted s) (b : List ℕ) (i : ℕ) (r : SheetReachable s (length b) true i) where
    abbrev part : List ℕ
    part = take (width (header_layout s) i / 8) (drop (start (header_layout s) i / 8) b)

    part-read : sheet_read s b true i ≡ gives (bytes part)
    part-read = by-sheet.read-after s i b true ∙ rw (((exactly s).reaches-are (length b) true i).1 (ok, r))

    part-size : 8 * length part ≡ width_at s i
    part-size = ((demand s ok).bytes_read b i part part-read).0

    part_bytes : AreBytes b → AreBytes part
    part_bytes h = let from = start (header_layout s) i / 8 in bytes_take (width (header_layout s) i / 8) (drop from b) (bytes_drop from b h)

    -- it has 2 bytes at least
    part-some : 2 ≤ length part
    part-some = omega (arith, part-size, (field-sound s (five-steps s ok).fields i r.there).slice-bits ((slice-holds-is (field_at s i).repr).0 (sym r.kind)))

  -- ---- after the template

  module _ (b c : List ℕ) (i : ℕ) (t : TemplateBuilt s b c (Ok tt)) (there : i < field_count s) where
    room : Accepted s × (header_bytes s ≤ length b)
    room = ((exactly s).template-is (length b)).0 (sym t.answer)

    owed : SheetDemand s
    owed = demand s room.0

    started : Started s b c
    started = (owed.template-reads b c (Ok tt) room.1 t).1

    reached : (as_bytes : Bool) → is_bytes_at s i ≡ as_bytes → SheetReachable s (length c) as_bytes i
    reached as_bytes kind = record { there = there; long = rw started.same_length room.1; kind = sym kind }

    sound : Sound (field_at s i)
    sound = field-sound s (five-steps s room.0).fields i there

    default-read : is_bytes_at s i ≡ false → (n : Result ℕ Refusal) → number_answer_says n ≡ sheet_read s c false i → n ≡ Ok (default_at s i)
    default-read kind (Ok x) e = ap Ok (owed.read-holds c false i (number x) (sym e) ∙ started.defaults i there)
    default-read kind (Err r) e =
        let is = e ∙ ((owed.accepted-reads c false i).1 (reached false kind)).1 in
        cc

    -- of a byte slice the bytes are as many as it has, and spell its default
    module _ (kind : is_bytes_at s i ≡ true) where
      abbrev left : List ℕ
      left = part room.0 c i (reached true kind)

      left_is : part_of (sheet_read s c true i) ≡ left
      left_is = ap part_of (part-read room.0 c i (reached true kind))

      left-size : 8 * length left ≡ width_at s i
      left-size = part-size room.0 c i (reached true kind)

      left-bytes : AreBytes left
      left-bytes = part_bytes room.0 c i (reached true kind) started.bytes

      left-spells : spelled left ≡ default_at s i
      left-spells = owed.read-holds c true i (bytes left) (part-read room.0 c i (reached true kind)) ∙ started.defaults i there

      -- one that states no bytes is absent, since it is neither a number nor a bool; and no bytes spell 0
      module _ (other : stated_default_kind (block_at s i) ≡ 2 → ⊥) where
        none-stated-there : (absent numbered : Bool) → eqb (stated_default_kind (block_at s i)) 0 ≡ absent → eqb (stated_default_kind (block_at s i)) 1 ≡ numbered → default_at s i ≡ 0
        none-stated-there true numbered e f =
            let default : (field_at s i).default ≡ DefaultVal.Bytes no_bytes = rw (e, kind) in
            rw default (none-stated (block_at s i) 0 0 refl)
        none-stated-there false true e f = absurd (sound.number-field (stated_number (block_at s i)) (rw (e, f)) ((slice-holds-is (field_at s i).repr).0 kind))
        none-stated-there false false e f = absurd (sound.no-bool-default (eqb (stated_number (block_at s i)) 1) (rw (e, f, ne_eqb (stated_default_kind (block_at s i)) 2 other)))

        zeros-read : left ≡ replicate (width_at s i / 8) 0
        zeros-read = spell-zero left (width_at s i / 8) left-bytes (omega (arith, left-size)) (left-spells ∙ none-stated-there _ _ refl refl)

    -- a default of stated bytes is that of a byte slice, and states all its bytes
    module _ (stated : stated_default_kind (block_at s i) ≡ 2) where
      abbrev span : Span
      span = record { at = stated_bytes_at; len = stated_count (block_at s i) }

      default-is : (field_at s i).default ≡ DefaultVal.Bytes span
      default-is = rw stated

      slice_field : is_bytes_at s i ≡ true
      slice_field = (slice-holds-is (field_at s i).repr).1 (sound.bytes-field span default-is)

      -- field 5, which is the one of field 4 to 6 that bytes can pass
      all-stated : (boolean sliced : Bool) (bits : ℕ)
          → cond boolean (refuse true Group.Field 4 i) (cond sliced (refuse (not (eqb span.len (bits / 8))) Group.Field 5 i) (refuse true Group.Field 6 i)) ≡ accepted
          → span.len ≡ bits / 8
      all-stated true sliced bits e = absurd (never-given refl e)
      all-stated false true bits e = simp (refuse-is, not_is, eqb_is) at e
      all-stated false false bits e = absurd (never-given refl e)

      count-is : stated_count (block_at s i) ≡ width_at s i / 8
      unfolding field_check
      count-is =
          let passed = simp (both_is, refuse-is) at (each-passed (λ j. block_check (block_at s j) j) (field_count s) (five-steps s room.0).fields i there) in
          all-stated (is_bool_arg (field_at s i).arg) (is_bytes_at s i) (stated_bits (block_at s i)) (simp both_is at (rw stated at passed.1.1.1)).0

      abbrev stated-bytes : List ℕ
      stated-bytes = slice stated_bytes_at (stated_bytes_at + stated_count (block_at s i)) (block_at s i)

      -- they lie in the block
      inside : stated_bytes_at + stated_count (block_at s i) ≤ length (block_at s i)
      inside = (fillable s room.0 i there c (omega (arith, whole-bytes s room.0, room.1, started.same_length))).inside span default-is

      same_size : length (left slice_field) ≡ length stated-bytes
      same_size = omega (arith, length-slice stated_bytes_at (stated_bytes_at + stated_count (block_at s i)) (block_at s i) inside, count-is, left-size slice_field)

      stated-read : AreBytes s → left slice_field ≡ stated-bytes
      stated-read h =
          spelled-ext (left slice_field) stated-bytes (left-bytes slice_field)
          (bytes-slice stated_bytes_at (stated_bytes_at + stated_count (block_at s i)) (block_at s i) (block-bytes s h i))
          same_size (left-spells slice_field ∙ rw default-is)

  -- ---- reads and writes

  -- an accepted write is one of an accepted sheet
  of-accepted : {b c : List ℕ} {w : Write} → SheetWritten s b c w (Ok tt) → Accepted s
  of-accepted {b} {w = w} t = (((exactly s).writes_are (length b) w).0 (sym t.answer)).0

  number-comes-back : (b c : List ℕ) (i v : ℕ) (n : Result ℕ Refusal) → SheetWritten s b c (write i (number v)) (Ok tt)
      → number_answer_says n ≡ sheet_read s c false i → n ≡ Ok v
  number-comes-back b c i v n t e =
      number-answer-one n (Ok v) (e ∙ ap (λ (x : List ℕ). sheet_read s x false i) t.bytes ∙ (demand s (of-accepted t)).reads-number b i v (sym t.answer))

  bytes-come-back : (b c : List ℕ) (i : ℕ) (l part : List ℕ) → AreBytes l → SheetWritten s b c (write i (bytes l)) (Ok tt)
      → part ≡ part_of (sheet_read s c true i) → part ≡ l
  bytes-come-back b c i l read h t e =
      e ∙ ap (λ (x : List ℕ). part_of (sheet_read s x true i)) t.bytes ∙ ap part_of ((demand s (of-accepted t)).reads_bytes b i l h (sym t.answer))

  -- where it can be read the part has 2 bytes at least, and else it is empty
  empty-part : (b : List ℕ) (i : ℕ) (l : List ℕ) (r : Result (Unit {0}) Refusal) → l ≡ part_of (sheet_read s b true i) → says r ≡ sheet_reach s (length b) true i
      → (l ≡ []) ↔ ((reason : Refusal) × (r ≡ Err reason))
  empty-part b i l (Ok tt) e may =
      let is = ((exactly s).reaches-are (length b) true i).0 (sym may) in
      let all = e ∙ ap part_of (part-read is.0 b i is.1) in
      (λ none. absurd (omega (arith, part-some is.0 b i is.1, ap length (sym all ∙ none))), λ p. cc)
  empty-part b i l (Err reason) e may =
      (λ _. (reason, refl), λ _. e ∙ ap part_of (by-sheet.read-after s i b true ∙ stand _ (sym may)))

  -- ---- locators

  located : (i : ℕ) (q : Result Locator Refusal) → says q ≡ locator_in s i → ((p : Locator) × (q ≡ Ok p)) ↔ (Accepted s × (i < field_count s))
  located i (Ok p) e = (λ _. (by-sheet.locator-is s i).0 (given (locator_check s i) (sym e)).0, λ _. (p, refl))
  located i (Err r) e = (
    λ p. absurd (never-given (sym e) (sym e ∙ ap says p.1)),
    λ h. absurd (never-given {v = locator_of s i} (sym e) (rw ((by-sheet.locator-is s i).1 h))),
  )

  module _ (i : ℕ) (reason : Refusal) (e : says (Err reason) ≡ locator_in s i) where
    none : locator_check s i ≡ refusal_says reason
    none = by-sheet.locator-refused s i e {r = reason} refl

    no_number : (b : List ℕ) (n : Result ℕ Refusal) → number_answer_says n ≡ sheet_read s b false i → n ≡ Err reason
    no_number b n is = number-answer-one n (Err reason) (is ∙ by-sheet.read-refused s i none b false)

    no_bytes_lem : (b : List ℕ) (r : Result (Unit {0}) Refusal) → says r ≡ sheet_reach s (length b) true i → r ≡ Err reason
    no_bytes_lem b r is = says-one r (Err reason) (is ∙ by-sheet.reach-refused s i none (length b) true)

    no_write : (b c : List ℕ) (v : Value) (r : Result (Unit {0}) Refusal) → SheetWritten s b c (write i v) r → r ≡ Err reason
    no_write b c v r t = (by-sheet.written_one t (by-sheet.not_written s b i v reason none)).0

  -- ---- sentence by sentence, as in `specs/Entries.antt`

  pub entries-owed : EntriesOwe s
  entries-owed = record {
    default-comes-back = λ b c i n t there kind. default-read b c i t there kind n;
    stated-bytes-come-back = λ b c i l h t there stated e. e ∙ left_is b c i t there (slice_field b c i t there stated) ∙ stated-read b c i t there stated h;
    zeros-come-back = λ b c i l t there kind other e. e ∙ left_is b c i t there kind ∙ zeros-read b c i t there kind other;
    refused-template = λ b c r t. t.untouched (never-given refl);
    number-comes-back = number-comes-back;
    bytes-come-back = bytes-come-back;
    refused-writing = λ b c w r t. t.bytes ∙ by-sheet.untouched s b w (sym t.answer);
    empty-part = empty-part;
    located = located;
    number-there = λ i p b n at e. e ∙ by-sheet.read-there s i (sym at) b false;
    bytes-there = λ i p b l at e. e ∙ ap part_of (by-sheet.read-there s i (sym at) b true);
    reach-there = λ i p b r at e. e ∙ by-sheet.reach-there s i (sym at) (length b) true;
    written-there = λ i p b c v r at t. by-sheet.written-there s i (sym at) t;
    no_number = λ i reason b n e. no_number i reason e b n;
    no_bytes = λ i reason b r e. no_bytes_lem i reason e b r;
    no_write = λ i reason b c v r e. no_write i reason e b c v r;
  }
