-- Fields given by their index: the list has them in order, each starts at its position, and it is good where each is good at its position. The list
-- is built from its front and positions from their end: `bits-from` joins the two, and what is public is of the list from g 0 on. Assumes nothing.
use mathlib.Core.Path.{◌≡◌, refl, ap, ◌∙◌}
use mathlib.Core.List.{List, ◌∷◌}
use mathlib.Core.Logic.{⊎_elim}
use Prim.Native.Nat.{ℕ, zero, suc, ◌+◌, ◌%◌, ◌≤◌, ◌<◌}
use native.Mathlib.Nat.{le_of_suc-le-suc, le_of_lt, eq-or-lt_of_le, add-zero, add-suc, suc-add, zero-add}
use native.Mathlib.Numerals.{add-one}
use native.Mathlib.Omega.{arith}
use lib.ListN.{length, take}
use Rattle.number.specs.Numbers.{max_bits}
use Rattle.layout.specs.Layout.{HeaderField, field, bits, start, GoodField, Good}
use Rattle.layout.specs.Indexed.{fields_from, position}

module _ (g : ℕ → HeaderField) where
  -- ---- positions

  -- the first starts at bit 0
  pub position-none : position g 0 ≡ 0
  unfolding position
  position-none = refl

  -- the next starts where this one ends
  pub position-more : (i : ℕ) → position g (i + 1) ≡ position g i + (g i).width
  unfolding position
  position-more i = rw add-one

  -- each ends where a later one starts, or before
  pub position_later : (i n : ℕ) → i < n → position g i + (g i).width ≤ position g n
  unfolding position
  position_later i zero h = absurd (omega arith)
  position_later i (suc n) h = ⊎_elim (λ e. rw e (omega arith)) (λ l. omega (arith, position_later i n l)) (eq-or-lt_of_le {n = i} {m = n} (omega arith))

  -- ---- the list from g i on

  length_from : (i n : ℕ) → length (fields_from g i n) ≡ n
  unfolding fields_from
  length_from i zero = refl
  length_from i (suc n) = ap suc (length_from (suc i) n)

  field-from : (i n j : ℕ) → j < n → field (fields_from g i n) j ≡ g (i + j)
  unfolding fields_from
  field-from i zero j h = absurd (omega arith)
  field-from i (suc n) zero h = rw add-zero
  field-from i (suc n) (suc j) h = rw (field-from (suc i) n j (le_of_suc-le-suc h), suc-add, add-suc)

  take-from : (i n j : ℕ) → j ≤ n → take j (fields_from g i n) ≡ fields_from g i j
  unfolding fields_from
  take-from i n zero h = refl
  take-from i zero (suc j) h = absurd (omega arith)
  take-from i (suc n) (suc j) h = ap (λ (fs : List HeaderField). g i ∷ fs) (take-from (suc i) n j (le_of_suc-le-suc h))

  bits-from : (i n : ℕ) → position g i + bits (fields_from g i n) ≡ position g (i + n)
  unfolding fields_from bits position
  bits-from i zero = simp add-zero
  bits-from i (suc n) = let same : suc i + n ≡ i + suc n = omega arith in omega (arith, bits-from (suc i) n, ap (position g) same)

  -- ---- the list from g 0 on

  -- it has n fields
  pub length-listed : (n : ℕ) → length (fields_from g 0 n) ≡ n
  length-listed n = length_from 0 n

  -- field i is g i
  pub field-listed : (n i : ℕ) → i < n → field (fields_from g 0 n) i ≡ g i
  field-listed n i h = field-from 0 n i h ∙ ap g (zero-add i)

  -- together they reach to the position of the next
  pub bits-listed : (n : ℕ) → bits (fields_from g 0 n) ≡ position g n
  bits-listed n = omega (arith, bits-from 0 n, position-none, ap (position g) (zero-add n))

  -- each starts at its position
  pub start-listed : (n i : ℕ) → i ≤ n → start (fields_from g 0 n) i ≡ position g i
  start-listed n i h = ap bits (take-from 0 n i h) ∙ bits-listed i

  -- fields that are good at their positions, in whole bytes and not too many, are a good list
  pub good-listed : (n : ℕ) → ((i : ℕ) → i < n → GoodField (position g i) (g i)) → position g n % 8 ≡ 0 → position g n ≤ max_bits → Good (fields_from g 0 n)
  good-listed n each whole most = record {
    whole = rw (bits-listed n) whole;
    most = rw (bits-listed n) most;
    each = λ i h.
        let l : i < n = rw (length-listed n) at h in
        rw (start-listed n i (le_of_lt l), field-listed n i l) (each i l);
  }
