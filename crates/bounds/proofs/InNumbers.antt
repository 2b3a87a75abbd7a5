-- Laws of ranges: cutting, emptiness, what two have in common, and the first and the last number, each in terms of the numbers that lie in a range.
-- They follow from what a start and an end say of one number. Beside them one answer. Assumes nothing.
use mathlib.Core.Path.{◌≡◌, refl, sym, ap, ◌∙◌}
use mathlib.Core.Bool.{Bool, true, false, cond, not, ◌&&◌, and-true, and-false, and_comm, and_assoc, not-not}
use mathlib.Core.Logic.{◌↔◌}
use Rattle.std.specs.Prelude.{None, Some}
use Prim.Native.Nat.{ℕ, suc, ◌+◌, ◌-◌, ◌^◌, ◌≤◌, ◌<◌}
use native.Mathlib.Numerals.{add-one}
use native.Mathlib.Omega.{arith}
use lib.Dec.{leb, ltb, leb-suc-suc}
use borrow.Author.Tests.{lt-ltb, le-leb, lt-leb, ltb-true, leb-true, leb-false, not-true}
use Rattle.answer.specs.Paper.{gives}
use Rattle.answer.proofs.Tests.{same_test, both_hold, and_is}
use Rattle.std.specs.declared.ops.Bound.{Bound}
use Rattle.bounds.specs.declared.CondBounds.{CondBounds}
use Rattle.bounds.specs.Bounds.{from_start, to_end, inside, first_of, holds_none, later, meets, clipped_end, clipped, is_excluded, empty_from, is_empty, starts_later, ends_earlier, common, intersection, last_of, first_last}

-- ---- tests

-- one that another follows from says as much as the two
absorbs : (a b : Bool) → (a ≡ true → b ≡ true) → a ≡ (a && b)
absorbs true b f = sym (f refl)
absorbs false b f = refl

-- where what would follow does not hold, it does not
not-from : (a : Bool) {b : Bool} → (a ≡ true → b ≡ true) → b ≡ false → a ≡ false
not-from true f e = sym (f refl) ∙ e
not-from false f e = refl

-- less is not at most the other way round
less-is : (m n : ℕ) → ltb m n ≡ not (leb n m)
less-is m n = same_test (ltb m n) (not (leb n m)) (λ e. rw (lt-leb n m (ltb-true m n e))) (λ e. lt-ltb m n (leb-false n m (not-true (leb n m) e)))

-- ---- one of two bounds

-- what holds of both holds of the chosen one
either : (P : Bound ℕ → Type 0) (test : Bool) {a b : Bound ℕ} → P a → P b → P (cond test a b)
either P true p q = p
either P false p q = q

-- where the one that is chosen says more than the other, it says what both say
chosen : (f : Bound ℕ → Bool) (test : Bool) (a b : Bound ℕ) → (test ≡ true → f a ≡ true → f b ≡ true) → (test ≡ false → f b ≡ true → f a ≡ true)
    → f (cond test a b) ≡ (f a && f b)
chosen f true a b p q = absorbs (f a) (f b) (p refl)
chosen f false a b p q = absorbs (f b) (f a) (q refl) ∙ and_comm (f b) (f a)

-- ---- starts and ends

-- not before the start: from the number that it begins with
from_is : (b : Bound ℕ) (n : ℕ) → from_start b n ≡ leb (first_of b) n
from_is Bound.Unbounded n = sym (le-leb 0 n (omega arith))
from_is (Bound.Included a) n = refl
from_is (Bound.Excluded a) n = rw add-one

begins : (b : Bound ℕ) (n : ℕ) → from_start b n ≡ true → first_of b ≤ n
begins b n t = leb-true (first_of b) n (sym (from_is b n) ∙ t)

-- what lies before a number that is not past the end is not past it either
end_before : (b : Bound ℕ) (m n : ℕ) → m ≤ n → to_end b n ≡ true → to_end b m ≡ true
end_before Bound.Unbounded m n h t = refl
end_before (Bound.Included e) m n h t = le-leb m e (omega (arith, leb-true))
end_before (Bound.Excluded e) m n h t = lt-ltb m e (omega (arith, leb-true))

-- where the end lies between two numbers, the one that is not past it is the smaller
end-between : (b : Bound ℕ) (m n : ℕ) → to_end b m ≡ false → to_end b n ≡ true → n < m
end-between Bound.Unbounded m n p t = absurd (let z : ◌≡◌ {A = ℕ} 0 1 = cc in omega arith)
end-between (Bound.Included e) m n p t = omega (arith, leb-true, leb-false)
end-between (Bound.Excluded e) m n p t = omega (arith, leb-true, leb-false)

-- ---- the numbers of a range

-- none is before the first, and from it on there is no gap
inside-first : (r : CondBounds) (n : ℕ) → inside r n ≡ true → first_of r.start ≤ n
inside-first r n t = begins r.start n (both_hold (from_start r.start n) (to_end r.end n) t).0

inside-end : (r : CondBounds) (m n : ℕ) → inside r n ≡ true → m ≤ n → to_end r.end m ≡ true
inside-end r m n t h = end_before r.end m n h (both_hold (from_start r.start n) (to_end r.end n) t).1

inside-before : (r : CondBounds) (m n : ℕ) → inside r n ≡ true → first_of r.start ≤ m → m ≤ n → inside r m ≡ true
inside-before r m n t l h = (and_is _ _).1 (from_is r.start m ∙ le-leb (first_of r.start) m l, inside-end r m n t h)

-- a range counts as holding none exactly where no number lies in it
pub holds-none-is : (r : CondBounds) → (holds_none r ≡ true) ↔ ((n : ℕ) → inside r n ≡ false)
holds-none-is r =
    let first = first_of r.start in
    (λ e n. not-from (inside r n) (λ t. inside-before r first n t (omega arith) (inside-first r n t)) (not-true (inside r first) e), λ h. rw (h first))

-- the later of two numbers is past none of them, and not past what they are not past
later-is : (a b n : ℕ) → a ≤ n → b ≤ n → (a ≤ later a b) × (b ≤ later a b) × (later a b ≤ n)
later-is a b n p q = picked (leb a b) refl
  where
    picked : (t : Bool) → leb a b ≡ t → (a ≤ cond t b a) × (b ≤ cond t b a) × (cond t b a ≤ n)
    picked true e = (leb-true a b e, omega arith, q)
    picked false e = (omega arith, omega (arith, leb-false a b e), p)

-- two ranges meet exactly where a number lies in both
pub meets-is : (r q : CondBounds) → (meets r q ≡ true) ↔ ((n : ℕ) × (inside r n ≡ true) × (inside q n ≡ true))
meets-is r q = (λ t. let two = both_hold (inside r n) (inside q n) t in (n, two.0, two.1), λ p. held p.0 p.1 p.2)
  where
    n : ℕ
    n = later (first_of r.start) (first_of q.start)

    held : (k : ℕ) → inside r k ≡ true → inside q k ≡ true → meets r q ≡ true
    held k t u =
        let l = later-is (first_of r.start) (first_of q.start) k (inside-first r k t) (inside-first q k u) in
        (and_is _ _).1 (inside-before r n k t l.0 l.2, inside-before q n k u l.1 l.2)

-- ---- the end cut at a largest number

-- the cut end says what the end and the largest number say
end-clipped : (b : Bound ℕ) (most n : ℕ) → to_end (clipped_end b most) n ≡ (to_end b n && leb n most)
end-clipped Bound.Unbounded most n = refl
end-clipped (Bound.Included e) most n =
    chosen (λ c. to_end c n) (ltb most e) (Bound.Included most) (Bound.Included e)
    (λ p t. le-leb n e (omega (arith, leb-true)))
    (λ p t. le-leb n most (omega (arith, leb-true, leb-false)))
    ∙ and_comm (leb n most) (leb n e)
end-clipped (Bound.Excluded e) most n =
    chosen (λ c. to_end c n) (ltb (most + 1) e) (Bound.Included most) (Bound.Excluded e)
    (λ p t. lt-ltb n e (omega (arith, leb-true)))
    (λ p t. le-leb n most (omega (arith, leb-true, leb-false)))
    ∙ and_comm (leb n most) (ltb n e)

-- of the numbers of a range those up to the largest are left
pub clipped-inside : (r : CondBounds) (most n : ℕ) → inside (clipped r most) n ≡ (inside r n && leb n most)
clipped-inside r most n = rw (end-clipped r.end most n) (sym (and_assoc (from_start r.start n) (to_end r.end n) (leb n most)))

-- ---- what two ranges have in common

-- the later start and the earlier end each say what both say
start-common : (a b : Bound ℕ) (n : ℕ) → is_excluded a ≡ false → from_start (cond (starts_later a b) a b) n ≡ (from_start a n && from_start b n)
start-common Bound.Unbounded b n x = refl
start-common (Bound.Included a) b n x =
    chosen (λ c. from_start c n) (from_start b a) (Bound.Included a) b
    (λ p t. from_is b n ∙ le-leb _ n (omega (arith, leb-true, begins b a p)))
    (λ p t. le-leb a n (omega (arith, begins b n t, leb-false (first_of b) a (sym (from_is b a) ∙ p))))
start-common (Bound.Excluded a) b n x = cc

end-common : (a b : Bound ℕ) (n : ℕ) → to_end (cond (ends_earlier a b) a b) n ≡ (to_end a n && to_end b n)
end-common Bound.Unbounded b n = refl
end-common (Bound.Included e) b n =
    chosen (λ c. to_end c n) (to_end b e) (Bound.Included e) b
    (λ p t. end_before b n e (leb-true n e t) p)
    (λ p t. le-leb n e (omega (arith, end-between b e n p t)))
end-common (Bound.Excluded e) Bound.Unbounded n = sym (and-true _)
end-common (Bound.Excluded e) (Bound.Included f) n =
    chosen (λ c. to_end c n) (leb e f) (Bound.Excluded e) (Bound.Included f)
    (λ p t. le-leb n f (omega (arith, leb-true)))
    (λ p t. lt-ltb n e (omega (arith, leb-true, leb-false)))
end-common (Bound.Excluded e) (Bound.Excluded f) n =
    chosen (λ c. to_end c n) (leb e f) (Bound.Excluded e) (Bound.Excluded f)
    (λ p t. lt-ltb n f (omega (arith, leb-true)))
    (λ p t. lt-ltb n e (omega (arith, leb-true, leb-false)))

-- a number lies in what two ranges have in common exactly where it lies in both
pub common-inside : (r q : CondBounds) → is_excluded r.start ≡ false → is_excluded q.start ≡ false → (n : ℕ) → inside (common r q) n ≡ (inside r n && inside q n)
common-inside r q x y n =
    rw (start-common r.start q.start n x, end-common r.end q.end n)
    (crossed (from_start r.start n) (from_start q.start n) (to_end r.end n) (to_end q.end n))
  where
    crossed : (a b c d : Bool) → ((a && b) && (c && d)) ≡ ((a && c) && (b && d))
    crossed true b true d = refl
    crossed true b false d = and-false b
    crossed false b c d = refl

-- it begins where the later one begins
first-common : (a b : Bound ℕ) → is_excluded a ≡ false → first_of (cond (starts_later a b) a b) ≡ later (first_of a) (first_of b)
first-common Bound.Unbounded b x = rw (le-leb 0 (first_of b) (omega arith))
first-common (Bound.Included a) b x = rw (from_is b a) (picked (leb (first_of b) a) (leb a (first_of b)) refl refl)
  where
    picked : (t u : Bool) → leb (first_of b) a ≡ t → leb a (first_of b) ≡ u → first_of (cond t (Bound.Included a) b) ≡ cond u (first_of b) a
    picked true true p q = omega (arith, leb-true (first_of b) a p, leb-true a (first_of b) q)
    picked true false p q = refl
    picked false true p q = refl
    picked false false p q = absurd (omega (arith, leb-false (first_of b) a p, leb-false a (first_of b) q))
first-common (Bound.Excluded a) b x = cc

-- ---- emptiness

-- whether a range counts as empty by this end is whether its first number is past the end
abbrev Told : ℕ → Bound ℕ → Type 0
Told first end = empty_from first end ≡ not (to_end end first)

told-included : (first e : ℕ) → Told first (Bound.Included e)
told-included first e = less-is e first

told-excluded : (first e : ℕ) → Told first (Bound.Excluded e)
told-excluded first e = rw (less-is first e, not-not)

told-clipped : (first : ℕ) (end : Bound ℕ) (most : ℕ) → Told first (clipped_end end most)
told-clipped first Bound.Unbounded most = told-included first most
told-clipped first (Bound.Included e) most = either (Told first) (ltb most e) (told-included first most) (told-included first e)
told-clipped first (Bound.Excluded e) most = either (Told first) (ltb (most + 1) e) (told-included first most) (told-excluded first e)

empty-told : (r : CondBounds) → is_excluded r.start ≡ false → Told (first_of r.start) r.end → is_empty r ≡ gives (holds_none r)
unfolding is_empty
empty-told r x t = rw (x, t, from_is r.start (first_of r.start), le-leb (first_of r.start) (first_of r.start) (omega arith))

-- a range counts as empty exactly where no number lies in it, but for a start of 2^64 - 1 with no end
pub empty-is : (r : CondBounds) → is_excluded r.start ≡ false → first_of r.start < 2 ^ 64 → (first_of r.start ≡ 2 ^ 64 - 1 → r.end ≡ Bound.Unbounded → ⊥)
    → is_empty r ≡ gives (holds_none r)
empty-is r x l h = empty-told r x (told r.end h)
  where
    told : (end : Bound ℕ) → (first_of r.start ≡ 2 ^ 64 - 1 → end ≡ Bound.Unbounded → ⊥) → Told (first_of r.start) end
    told Bound.Unbounded h = let n : first_of r.start ≡ 2 ^ 64 - 1 → ⊥ = λ e. h e refl in lt-leb (2 ^ 64 - 1) (first_of r.start) (omega arith)
    told (Bound.Included e) h = told-included (first_of r.start) e
    told (Bound.Excluded e) h = told-excluded (first_of r.start) e

-- a cut range does so always
pub clipped-empty : (r : CondBounds) (most : ℕ) → is_excluded r.start ≡ false → is_empty (clipped r most) ≡ gives (holds_none (clipped r most))
clipped-empty r most x = empty-told (clipped r most) x (told-clipped (first_of r.start) r.end most)

-- and what two cut ranges have in common counts as empty exactly where they do not meet
pub clipped-meets : (r q : CondBounds) (most : ℕ) → is_excluded r.start ≡ false → is_excluded q.start ≡ false
    → (intersection (clipped r most) (clipped q most) ≡ gives (common (clipped r most) (clipped q most)))
    × (is_empty (common (clipped r most) (clipped q most)) ≡ gives (not (meets (clipped r most) (clipped q most))))
unfolding intersection
clipped-meets r q most x y =
    let a = clipped r most in
    let b = clipped q most in
    let first = first_of (common a b).start in
    let told = either (Told first) (ends_earlier a.end b.end) (told-clipped first r.end most) (told-clipped first q.end most) in
    let met = common-inside a b x y first ∙ ap (λ (n : ℕ). inside a n && inside b n) (first-common r.start q.start x) in (
      rw (x, y),
      empty-told (common a b) (either (λ c. is_excluded c ≡ false) (starts_later r.start q.start) x y) told ∙ ap (λ (t : Bool). gives (not t)) met,
    )

-- ---- the first and the last number

-- the numbers of 64 bits in a range are those from the first to the last
pub first-last-is : (r : CondBounds) (a z : ℕ) → first_last r ≡ Some (a, z) → (n : ℕ) → n < 2 ^ 64 → inside r n ≡ (leb a n && leb n z)
first-last-is r a z e n h =
    let first = first_of r.start in
    let two = held (ltb first (2 ^ 64) && to_end r.end first) (first, last_of r.end) e in
    rw (from_is r.start n, to_last r.end (both_hold (ltb first (2 ^ 64)) (to_end r.end first) two.0).1)
    (ap (λ (p : ℕ × ℕ). leb p.0 n && leb n p.1) two.1)
  where
    held : (test : Bool) (p : ℕ × ℕ) → cond test (Some p) None ≡ Some (a, z) → (test ≡ true) × (p ≡ (a, z))
    held true p e = (refl, cc)
    held false p e = (cc, cc)

    to_last : (end : Bound ℕ) → to_end end (first_of r.start) ≡ true → to_end end n ≡ leb n (last_of end)
    to_last Bound.Unbounded t = sym (le-leb n (2 ^ 64 - 1) (omega arith))
    to_last (Bound.Included e) t = refl
    to_last (Bound.Excluded e) t = let e-is : e ≡ suc (e - 1) = omega (arith, leb-true) in ap (λ (m : ℕ). ltb n m) e-is ∙ leb-suc-suc n (e - 1)

-- where there is none no number of 64 bits lies in the range
pub first-last-none : (r : CondBounds) → first_last r ≡ None → (n : ℕ) → n < 2 ^ 64 → inside r n ≡ false
first-last-none r e n h =
    let first = first_of r.start in
    not-from (inside r n)
    (λ t. let l = inside-first r n t in (and_is _ _).1 (lt-ltb first (2 ^ 64) (omega arith), inside-end r first n t l))
    (not-held (ltb first (2 ^ 64) && to_end r.end first) (first, last_of r.end) e)
  where
    not-held : (test : Bool) (p : ℕ × ℕ) → cond test (Some p) None ≡ None → test ≡ false
    not-held true p e = cc
    not-held false p e = refl
