-- Step 5 accepts exactly the sheets of `ConditionsAre`: `conditions-are`. Of each check, from the single tests up to the whole step, it is said exactly when it
-- passes: of ranges by the numbers that lie in them, of a block by the record `Entry`. Assumes nothing.
use mathlib.Core.Path.{◌≡◌, refl, sym, ◌∙◌}
use mathlib.Core.Bool.{Bool, true, false, cond, true≢false}
use mathlib.Core.List.{List}
use mathlib.Core.Logic.Iff
use mathlib.Core.Logic.{◌↔◌}
use Rattle.std.specs.Prelude.{Option, None, Some}
use Prim.Native.Nat.{ℕ, ◌<◌}
use native.Mathlib.Omega.{arith}
use lib.Dec.{leb}
use borrow.Author.Tests.{not-false}
use Rattle.answer.specs.Paper.{Check, accepted}
use Rattle.answer.proofs.Chains.{both_is, refuse-is, never-given, each-is}
use Rattle.answer.proofs.Tests.{fails-is, and_is, leb-is, leb-is-not}
use Rattle.answer.proofs.Walk.{nowhere-is}
use Rattle.octets.proofs.Octets.{same-is}
use Rattle.sheet.specs.Blocks.{block_at}
use Rattle.types.specs.declared.BuiltinTypes.{BuiltinTypes}
use Rattle.types.proofs.CodesAndNames.{slice_is}
use Rattle.field.specs.declared.Field.{Field}
use Rattle.field_blocks.specs.Step.{field_at}
use Rattle.header.specs.Names.{name_at}
use Rattle.bounds.specs.Bounds.{inside, first_of, holds_none, meets}
use Rattle.bounds.proofs.InNumbers.{clipped-inside, holds-none-is, meets-is}
use Rattle.cond.specs.Ranges.{range_in, largest_of, clipped_in}
use Rattle.cond.specs.Step.{meets_earlier, ranges_check, is_entry, listed_before, cond_fault, named_fault, entry_fault, cond_check}
use Rattle.cond.specs.ConditionsAre.{Lies, Entry, ConditionsAre}
use Rattle.blocks.specs.Layout.{range_count}

-- a check made only where a test holds passes exactly where, if the test holds, it does
asked_is : (test : Bool) (x : Check) → (cond test x accepted ≡ accepted) ↔ (test ≡ true → x ≡ accepted)
asked_is true x = (λ e _. e, λ h. h refl)
asked_is false x = (λ _ e. absurd (true≢false (sym e)), λ _. refl)

-- ---- the ranges of one entry

module _ (b : List ℕ) (f : Field) where
  -- in the cut range lie exactly the values of the field that lie in the range
  lies-is : (k n : ℕ) → (inside (clipped_in b (largest_of f) k) n ≡ true) ↔ Lies b f k n
  lies-is k n = rw (clipped-inside (range_in b k) (largest_of f) n)
      (Iff.trans (and_is (inside (range_in b k) n) (leb n (largest_of f))) (Iff.and Iff.rfl (leb-is n (largest_of f))))

  -- it does not count as empty exactly where there is such a value
  held-is : (k : ℕ) → (holds_none (clipped_in b (largest_of f) k) ≡ false) ↔ ((n : ℕ) × Lies b f k n)
  held-is k =
      let r = clipped_in b (largest_of f) k in (
        λ e. let n = first_of r.start in (n, (lies-is k n).0 (not-false (inside r n) e)),
        λ p. (fails-is (holds_none r)).1 (λ e. true≢false (sym ((lies-is k p.0).1 p.1) ∙ (holds-none-is r).0 e p.0)),
      )

  -- two do not meet exactly where no value lies in both
  apart-is : (j k : ℕ) → (meets (clipped_in b (largest_of f) j) (clipped_in b (largest_of f) k) ≡ true → ⊥) ↔ ((n : ℕ) → Lies b f j n → Lies b f k n → ⊥)
  apart-is j k =
      let m = meets-is (clipped_in b (largest_of f) j) (clipped_in b (largest_of f) k) in (
        λ h n p q. h (m.1 (n, (lies-is j n).1 p, (lies-is k n).1 q)),
        λ h e. let p = m.0 e in h p.0 ((lies-is j p.0).0 p.1) ((lies-is k p.0).0 p.2),
      )

  -- so a range meets no earlier one exactly where no value of it lies in one of those
  earlier-is : (k : ℕ) → (meets_earlier b (largest_of f) k ≡ false) ↔ ((j : ℕ) → j < k → (n : ℕ) → Lies b f j n → Lies b f k n → ⊥)
  earlier-is k = simp (nowhere-is, apart-is) Iff.rfl

  -- the ranges pass exactly where in each lies a value, and none that lies in an earlier one
  ranges-are : (i : ℕ) → (ranges_check b (largest_of f) i ≡ accepted)
      ↔ ((k : ℕ) → k < range_count b → ((n : ℕ) × Lies b f k n) × ((j : ℕ) → j < k → (n : ℕ) → Lies b f j n → Lies b f k n → ⊥))
  ranges-are i = simp (each-is, both_is, refuse-is, held-is, earlier-is) Iff.rfl

-- ---- one entry

module _ (s : List ℕ) (i : ℕ) where
  -- a block counts as listed nowhere before exactly where no entry before has its name
  listed-is : (listed_before s i ≡ false) ↔ ((j : ℕ) → j < i → (is_entry (block_at s j) ≡ true) × (name_at s j ≡ name_at s i) → ⊥)
  listed-is = simp (nowhere-is, and_is, same-is) Iff.rfl

  -- the field that the entry names passes exactly where it is no byte slice, the ranges pass, and it was not listed
  field_is : (f : Field) → (cond_fault s i f ≡ accepted)
      ↔ ((f.repr ≡ BuiltinTypes.ByteSlice → ⊥) × ((ranges_check (block_at s i) (largest_of f) i ≡ accepted) × (listed_before s i ≡ false)))
  unfolding cond_fault
  field_is f = simp (both_is, refuse-is, slice_is) Iff.rfl

  -- what was found passes exactly where it is a field, and that passes
  named-is : (found : Option ℕ) → (named_fault s i found ≡ accepted)
      ↔ ((k : ℕ) × (found ≡ Some k) × (cond_fault s i (field_at s k) ≡ accepted))
  named-is (Some k) = (λ e. (k, refl, e), λ p. let same : k ≡ p.0 = cc in rw same p.2)
  named-is None = (λ e. absurd (never-given refl e), λ p. absurd (let z : ◌≡◌ {A = ℕ} 0 1 = cc in omega arith))

  -- a block passes exactly where it is no entry, or a good one whose name no entry before has
  entry-is : (entry_fault s i ≡ accepted) ↔ (is_entry (block_at s i) ≡ true → Entry s i × (listed_before s i ≡ false))
  entry-is = simp (asked_is, named-is, field_is, ranges-are) (
    λ h e.
        let p = h e in
        (record { field = p.0; named = p.1; number = p.2.0; held = λ k l. (p.2.1.0 k l).0; apart = λ j k b l. (p.2.1.0 k l).1 j b }, p.2.1.1),
    λ h e.
        let p = h e in
        let entry = p.0 in
        (entry.field, entry.named, (entry.number, (λ k l. (entry.held k l, λ j b. entry.apart j k b l), p.1))),
  )

-- ---- the step: block after block, then the count of entries

pub conditions-are : (s : List ℕ) → (cond_check s ≡ accepted) ↔ ConditionsAre s
unfolding cond_check
conditions-are s = simp (both_is, refuse-is, each-is, entry-is, listed-is, leb-is-not) (
  λ p. record {
    entries = λ i h e. (p.0 i h e).0;
    once = λ i j l h e e' same. (p.0 j h e').1 i l (e, same);
    most = omega arith;
  },
  λ c. (λ i h e. (c.entries i h e, λ j l p. c.once j i l h p.0 e p.1), omega arith),
)
