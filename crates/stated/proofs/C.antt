-- A block of kind C is inside the layout exactly where it states a name and ranges, and these are read back. Assumes nothing.
use mathlib.Core.Path.{◌≡◌, refl, sym, ap, ◌∙◌}
use mathlib.Core.Bool.{true, not, ◌||◌}
use mathlib.Core.List.{List}
use mathlib.Core.Logic.{◌↔◌}
use Prim.Native.Nat.{ℕ, zero, suc, ◌+◌, ◌*◌, ◌^◌, ◌≤◌, ◌<◌}
use native.Mathlib.Omega.{arith}
use lib.Dec.{leb, eqb, lit<}
use lib.ListN.{length, get_or}
use lib.Seq.{slice}
use borrow.Author.Tests.{leb-true, le-leb, eqb-true, eq-eqb}
use Rattle.answer.specs.Walk.{each}
use Rattle.answer.proofs.Tests.{parts}
use Rattle.answer.proofs.Walk.{each_all, each_at}
use Rattle.octets.specs.Octets.{AreBytes, byte, be, all_in, is_zero}
use Rattle.octets.proofs.Octets.{be-lt}
use Rattle.blocks.specs.Layout.{block_size, check_at, kind_of, kind_c, name_of, range_count, range_at, stated_range, range_rule, range_layout, c_layout}
use Rattle.std.specs.declared.ops.Bound.{Bound}
use Rattle.bounds.specs.declared.CondBounds.{CondBounds}
use Rattle.stated.specs.Items.{WellFormedStart, WellFormedEnd, WellFormedRange, all_numbers, WellFormedRanges, cond_item, WellFormed}
use Rattle.stated.specs.Parts.{rows}
use Rattle.stated.specs.Stated.{bound_kind, bound_number, range_codes, range_parts, cond_parts}
use Rattle.stated.proofs.ItemIn.{bound_from, bounds_from, bounds_in}
use Rattle.stated.proofs.Reading.{Fit, Reads}
use Rattle.stated.proofs.Rows.{rows-length, rows-bytes, rows_are}
use Rattle.stated.proofs.Tables.{tabled, tabled-length, tabled-each, tabled-of}
use Rattle.stated.proofs.Name.{name-fits, name-read, name-holds}

-- ---- a start and an end, by their codes

start-read : (kind n : ℕ) → leb kind 1 ≡ true → (not (eqb kind 0) || eqb n 0) ≡ true → n < 2 ^ 64
    → WellFormedStart (bound_from kind n) × (kind ≡ bound_kind (bound_from kind n)) × (n ≡ bound_number (bound_from kind n))
start-read zero n h z l = (tt, refl, eqb-true n 0 z)
start-read (suc zero) n h z l = (l, refl, refl)
start-read (suc (suc k)) n h z l = absurd (omega (arith, leb-true (suc (suc k)) 1 h))

end_read : (kind n : ℕ) → leb kind 2 ≡ true → (not (eqb kind 0) || eqb n 0) ≡ true → n < 2 ^ 64
    → WellFormedEnd (bound_from kind n) × (kind ≡ bound_kind (bound_from kind n)) × (n ≡ bound_number (bound_from kind n))
end_read zero n h z l = (tt, refl, eqb-true n 0 z)
end_read (suc zero) n h z l = (l, refl, refl)
end_read (suc (suc zero)) n h z l = (l, refl, refl)
end_read (suc (suc (suc k))) n h z l = absurd (omega (arith, leb-true (suc (suc (suc k))) 2 h))

pub bound-back : (e : Bound ℕ) → bound_from (bound_kind e) (bound_number e) ≡ e
bound-back Bound.Unbounded = refl
bound-back (Bound.Included n) = refl
bound-back (Bound.Excluded n) = refl

-- a start is as good as an end
as-end : (s : Bound ℕ) → WellFormedStart s → WellFormedEnd s
as-end Bound.Unbounded h = h
as-end (Bound.Included n) h = h
as-end (Bound.Excluded n) h = absurd h

bound-fits : (e : Bound ℕ) → WellFormedEnd e → (bound_kind e < 256) × (bound_number e < 2 ^ 64)
bound-fits Bound.Unbounded h = (lit< tt, lit< tt)
bound-fits (Bound.Included n) h = (lit< tt, h)
bound-fits (Bound.Excluded n) h = (lit< tt, h)

range-rule : (s e : Bound ℕ) → WellFormedStart s → range_rule (range_codes (record { start = s; end = e })) ≡ true
range-rule Bound.Unbounded Bound.Unbounded h = refl
range-rule Bound.Unbounded (Bound.Included n) h = refl
range-rule Bound.Unbounded (Bound.Excluded n) h = refl
range-rule (Bound.Included m) Bound.Unbounded h = refl
range-rule (Bound.Included m) (Bound.Included n) h = refl
range-rule (Bound.Included m) (Bound.Excluded n) h = refl
range-rule (Bound.Excluded m) e h = absurd h

ranges-fit : (rs : List CondBounds) → WellFormedRanges rs → (k : ℕ) → k < length rs → Fit (range_parts (get_or rs k all_numbers))
ranges-fit rs good k h =
    let r = get_or rs k all_numbers in
    let s = bound-fits r.start (as-end r.start (good.each k h).0) in
    let e = bound-fits r.end (good.each k h).1 in
    omega (arith, s, e)

ranges-length : (rs : List CondBounds) → WellFormedRanges rs → length (rows range_parts rs) ≡ 18 * length rs
ranges-length rs good = rows-length range_parts all_numbers 18 (λ r. refl) rs (ranges-fit rs good)

pub cond-fits : (name : List ℕ) (rs : List CondBounds) → WellFormed (cond_item name rs) → Fit (cond_parts name rs)
cond-fits name rs (named, good) =
    let few : length rs ≤ 24 = omega (arith, good.few) in
    let size = ranges-length rs good in
    let n = name-fits name named in
    let held = rows-bytes range_parts all_numbers 18 (λ r. refl) rs (ranges-fit rs good) in
    (lit< tt, (n.0, (n.1, (omega arith, (lit< tt, ((omega arith, held), tt))))))

-- ---- a range in a block

module _ (b : List ℕ) (k : ℕ) where
  two : range_at k + 1 + 1 ≡ range_at k + 2
  two = omega arith

  ten : range_at k + 1 + 1 + 8 ≡ range_at k + 10
  ten = omega arith

  range-read : AreBytes b → range_layout b k ≡ true → WellFormedRange (bounds_in b k) × Reads b (range_at k) (range_parts (bounds_in b k))
  unfolding bounds_in
  range-read bytes h =
      let r = stated_range b k in
      let s = start-read r.opens r.start (search parts) (search parts) (be-lt b bytes (range_at k + 2) 8) in
      let e = end_read r.closes r.end (search parts) (search parts) (be-lt b bytes (range_at k + 10) 8) in
      ((s.0, e.0), (s.1, (e.1, (rw two s.2, (rw ten e.2, tt)))))

  -- the codes of a range that is read, and that it passes
  pub codes-read : (r : CondBounds) → Reads b (range_at k) (range_parts r) → stated_range b k ≡ range_codes r
  codes-read r (opens, (closes, (start, (end, _)))) =
      let start_is : be b (range_at k + 2) 8 ≡ bound_number r.start = rw two at start in
      let end_is : be b (range_at k + 10) 8 ≡ bound_number r.end = rw ten at end in
      rw (opens, closes, start_is, end_is)

  range-holds : (r : CondBounds) → WellFormedRange r → Reads b (range_at k) (range_parts r) → (range_layout b k ≡ true) × (bounds_in b k ≡ r)
  unfolding bounds_in
  range-holds r good reads =
      let codes = codes-read r reads in
      let back : bounds_from (range_codes r) ≡ r = rw (bound-back r.start, bound-back r.end) in
      (ap range_rule codes ∙ range-rule r.start r.end good.0, ap bounds_from codes ∙ back)

-- ---- a block

module _ (b : List ℕ) (bytes : AreBytes b) (long : length b ≡ block_size) where
  -- ranges that stand one after the other, range by range
  ranges-are : (rs : List CondBounds) → WellFormedRanges rs
      → (slice 68 (68 + length (rows range_parts rs)) b ≡ rows range_parts rs) ↔ ((k : ℕ) → k < length rs → Reads b (range_at k) (range_parts (get_or rs k all_numbers)))
  ranges-are rs good = rows_are range_parts all_numbers 18 (λ r. refl) b bytes rs 68 (ranges-fit rs good) (omega (arith, good.few))

  pub c_read : kind_of b ≡ kind_c → c_layout b ≡ true
      → WellFormed (cond_item (name_of b) (tabled (bounds_in b) (range_count b))) × Reads b 0 (cond_parts (name_of b) (tabled (bounds_in b) (range_count b)))
  unfolding c_layout
  c_read kind h =
      let name = name-read b long (search parts) in
      let n = range_count b in
      let few : n ≤ 24 = leb-true (range_count b) 24 (search parts) in
      let all-ranges : each (range_layout b) n ≡ true = search parts in
      let zero-byte = eqb-true (byte b 67) 0 (search parts) in
      let rest : all_in is_zero b (range_at n) check_at ≡ true = search parts in
      let ranges = tabled (bounds_in b) n in
      let size : length ranges ≡ n = tabled-length (bounds_in b) n in
      let read = tabled-each (λ k r. WellFormedRange r × Reads b (range_at k) (range_parts r)) (bounds_in b) n all_numbers
      (λ k l. range-read b k bytes (each_at (range_layout b) n all-ranges k l)) in
      let good : WellFormedRanges ranges = record { few = omega arith; each = λ k l. (read k l).0 } in
      let held = (ranges-are ranges good).1 (λ k l. (read k l).1) in
      ((name.0, good), (kind, (name.1, (name.2, (sym size, (zero-byte, ((held, rw (ranges-length ranges good, size) rest), tt)))))))

  -- the bytes of each range that is stated
  pub ranges-read : (name : List ℕ) (ranges : List CondBounds) → WellFormed (cond_item name ranges) → Reads b 0 (cond_parts name ranges)
      → (k : ℕ) → k < length ranges → Reads b (range_at k) (range_parts (get_or ranges k all_numbers))
  ranges-read name ranges (_, good) (_, (_, (_, (_, (_, ((held, _), _)))))) = (ranges-are ranges good).0 held

  pub c-holds : (name : List ℕ) (ranges : List CondBounds) → WellFormed (cond_item name ranges) → Reads b 0 (cond_parts name ranges)
      → (c_layout b ≡ true) × (cond_item (name_of b) (tabled (bounds_in b) (range_count b)) ≡ cond_item name ranges)
  unfolding c_layout
  c-holds name ranges good reads =
      let (kind, (size, (name-is, (count, (gap, ((_, rest), _)))))) = reads in
      let row : (k : ℕ) → k < length ranges → (range_layout b k ≡ true) × (bounds_in b k ≡ get_or ranges k all_numbers) =
      λ k l. range-holds b k (get_or ranges k all_numbers) (good.1.each k l) (ranges-read name ranges good reads k l) in
      let named = name-holds b long name good.0 size name-is in
      let few = le-leb (length ranges) 24 good.1.few in
      let all-ranges = each_all (range_layout b) (length ranges) (λ k l. (row k l).0) in (
        rw (named.0, count, few, eq-eqb (byte b 67) 0 gap, all-ranges) (rw (ranges-length ranges good.1) at rest),
        rw (named.1, count, tabled-of (bounds_in b) all_numbers ranges (λ k l. (row k l).1)),
      )
