-- Every text that is printed has at most 40,000 bytes: a refusal is one short line; a listing has at most 64 fields, a template of at most 8,192 bytes, three
-- lengths, and 8 conditions with at most 24 ranges each. It is shown of 50,689 bytes at most, which print what longer ones print. Assumes nothing.
use mathlib.Core.Path.{◌≡◌, refl}
use mathlib.Core.Bool.{Bool, true, false, cond, ◌&&◌}
use mathlib.Core.List.{List}
use Rattle.std.specs.Prelude.{Option, None, Some}
use Prim.Native.Nat.{ℕ, zero, suc, ◌+◌, ◌*◌, ◌^◌, ◌≤◌, ◌<◌}
use native.Mathlib.Nat.{le_refl, lt_of_le_of_lt, suc-mul}
use native.Mathlib.Decide.{dec_lt}
use native.Mathlib.Omega.{arith}
use lib.Dec.{ltb}
use lib.ListN.{length, take, length-append, length-take}
use borrow.Author.Tests.{ltb-true, ltb-false, le-ltb}
use Rattle.text.specs.Text.{spaced}
use Rattle.text.proofs.Lengths.{no-words-length, spaced-length, line-length, texts-length}
use Rattle.answer.specs.Paper.{Check, gives, refused}
use Rattle.answer.proofs.Tests.{both_hold}
use Rattle.answer.specs.Walk.{or_zero}
use Rattle.blocks.specs.Layout.{name_of, range_count}
use Rattle.blocks.proofs.Told.{name-short, few-ranges}
use Rattle.sheet.specs.Blocks.{block_count, block_at, field_count, cond_count}
use Rattle.sheet.specs.SheetIs.{InOrder}
use Rattle.sheet.proofs.SheetIs.{in_order, laid_out}
use Rattle.field_blocks.specs.Step.{field_at}
use Rattle.layout.specs.Layout.{template}
use Rattle.header.specs.Names.{name_at, field_named}
use Rattle.header.specs.Starts.{start_at, header_layout}
use Rattle.header.specs.Step.{header_bytes}
use Rattle.header.proofs.Starts.{field-inside}
use Rattle.slots.specs.Slots.{block_of_slot, length_field}
use Rattle.length.specs.Step.{largest_length}
use Rattle.std.specs.declared.ops.Bound.{Bound}
use Rattle.bounds.specs.Bounds.{to_end, first_of, clipped_end, last_of}
use Rattle.cond.specs.Ranges.{range_in, largest_of}
use Rattle.cond.specs.Step.{is_entry, numbers_in, range_numbers}
use Rattle.cond.proofs.ConditionsAre.{conditions-are}
use Rattle.definition.specs.Definition.{Accepted}
use Rattle.definition.proofs.Steps.{FiveSteps, five-steps, whole-bytes, few_bytes}
use Rattle.definition.proofs.Given.{largest-fits, slot-given}
use Rattle.definition.proofs.Within.{Within, stops, chains, definition-within}
use Rattle.template.specs.Template.{template_check}
use Rattle.template.proofs.Built.{room-is}
use Rattle.lines.proofs.Lengths.{refusal-length, header-length, field-length, template-length, slot-line-length, Small, range_length}
use Rattle.listing.specs.Listing.{field_text, slot_text, ranges_from, cond_text, first_cond, listing, text_of, printed}
use Rattle.listing.proofs.Wrote.{spaced-append}
use Rattle.listing.proofs.Told.{template-bytes}
use Rattle.listing.proofs.Front.{printed-front}

-- ---- the numbers of a range

-- where the end is cut at a largest number, the last is at most that
cut : (most : ℕ) (test : Bool) (end : Bound ℕ) → (test ≡ false → last_of end ≤ most) → last_of (cond test (Bound.Included most) end) ≤ most
cut most true end h = le_refl most
cut most false end h = h refl

last-le : (end : Bound ℕ) (most : ℕ) → last_of (clipped_end end most) ≤ most
last-le Bound.Unbounded most = le_refl most
last-le (Bound.Included e) most = cut most (ltb most e) (Bound.Included e) (ltb-false most e)
last-le (Bound.Excluded e) most = cut most (ltb (most + 1) e) (Bound.Excluded e) (λ f. omega (arith, ltb-false (most + 1) e f))

-- both are below 2 ^ 64, of any bytes
small-where : (test : Bool) (range : Option (ℕ × ℕ)) → (test ≡ true → Small range) → Small (cond test range None)
small-where true range h = h refl
small-where false range h = tt

module _ (s : List ℕ) (i k : ℕ) where
  numbers-small : (found : Option ℕ) → Small (numbers_in s found (block_at s i) k)
  numbers-small (Some j) =
      let r = range_in (block_at s i) k in
      let most = largest_of (field_at s j) in
      let first = first_of r.start in
      small-where (ltb first (2 ^ 64) && to_end (clipped_end r.end most) first) (Some (first, last_of (clipped_end r.end most)))
      (λ t. (ltb-true first (2 ^ 64) (both_hold _ _ t).0, lt_of_le_of_lt (last-le r.end most) (largest-fits (field_at s j))))
  numbers-small None = tt

  range_small : Small (range_numbers s i k)
  unfolding range_numbers
  range_small =
      let b = block_at s i in
      let found = field_named s (name_at s i) in
      small-where (is_entry b && ltb k (range_count b)) (numbers_in s found b k) (λ t. numbers-small found)

ranges-length : (s : List ℕ) (i j n : ℕ) → length (spaced (ranges_from s i j n)) ≤ n * 42
unfolding ranges_from
ranges-length s i j zero = omega (arith, no-words-length)
ranges-length s i j (suc n) =
    simp (spaced-append, length-append, suc-mul) (omega (arith, range_length (range_numbers s i j) (range_small s i j), ranges-length s i (j + 1) n))

-- ---- the lines of an accepted sheet

module _ (s : List ℕ) (ok : Accepted s) where
  steps : FiveSteps s
  steps = five-steps s ok

  blocks : InOrder s
  blocks = in_order s steps.sheet

  -- the name in any block; past the last there is none
  names-short : (i : ℕ) → length (name_at s i) ≤ 64
  unfolding block_at name_of
  names-short i = by_place (dec_lt i (block_count s))
    where
      by_place : Dec (i < block_count s) → length (name_at s i) ≤ 64
      by_place (yes l) = name-short (block_at s i) (laid_out s steps.sheet i l)
      by_place (no l) = rw (le-ltb i (block_count s) (omega arith)) (omega arith)

  field-text-length : (i : ℕ) → i < field_count s → length (field_text s i) ≤ 182
  field-text-length i h =
      let inside = field-inside s i h in
      let size = whole-bytes s ok in
      let few = few_bytes s ok in
      field-length i (start_at s i) (field_at s i) (name_at s i) (omega (arith, blocks.most-fields)) (omega arith) (omega arith) (names-short i)

  slot-text-length : (slot : ℕ) → slot < 3 → length (slot_text s slot) ≤ 105
  slot-text-length slot h =
      slot-line-length slot (name_at s (or_zero (block_of_slot s slot))) (largest_length s slot) (length_field s slot) (names-short (or_zero (block_of_slot s slot)))
      (λ e is. let most = slot-given s ok slot e h is in (most.0, most.1, omega (arith, most.2)))

  cond-text-length : (i : ℕ) → first_cond s ≤ i → i < first_cond s + cond_count s → length (cond_text s i) ≤ 1078
  unfolding cond_text
  cond-text-length i l h =
      let there : i < block_count s = omega (arith, blocks.no-others) in
      let few = few-ranges (block_at s i) (blocks.c-last i l there) (laid_out s steps.sheet i there) in
      simp (line-length, spaced-length) (omega (arith, names-short i, ranges-length s i 0 (range_count (block_at s i))))

  listing-length : header_bytes s ≤ 8192 → length (listing s) ≤ 40000
  unfolding listing
  listing-length h =
      simp length-append
      (omega (
        arith,
        header-length (header_bytes s) (omega arith),
        texts-length (field_text s) 182 0 (field_count s) (λ i _ l. field-text-length i l),
        blocks.most-fields,
        template-length (template (header_layout s)),
        template-bytes s ok,
        slot-text-length 0 (omega arith),
        slot-text-length 1 (omega arith),
        slot-text-length 2 (omega arith),
        texts-length (cond_text s) 1078 (first_cond s) (first_cond s + cond_count s) cond-text-length,
        ((conditions-are s).0 steps.conds).most,
      ))

-- ---- every text

module _ (s : List ℕ) (few : length s ≤ 50689) where
  -- room 1 is no greater number, and its place is the block count
  template-within : Within (block_count s) (template_check s 8192)
  unfolding template_check
  template-within = search (chains, definition-within, le_refl)

  of-answer : (x : Check) → template_check s 8192 ≡ x → Within (block_count s) x → length (text_of s x) ≤ 40000
  of-answer (gives _) is w = let fits = (room-is s 8192).0 is in listing-length s fits.0 fits.1
  of-answer (refused g n at) is (stops small near) = omega (arith, refusal-length g n at (omega arith) (omega arith))

  front_length : length (printed s) ≤ 40000
  unfolding printed
  front_length = of-answer (template_check s 8192) refl template-within

pub every-listing : (s : List ℕ) → length (printed s) ≤ 40000
every-listing s = rw (← (printed-front s 50689 (le_refl _))) (front_length (take 50689 s) (simp length-take (omega arith)))
