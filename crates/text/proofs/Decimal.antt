-- Decimal numbers digit by digit, and their digits stored from the end of an array on. Assumes nothing.
use mathlib.Core.Path.{◌≡◌, refl, sym, ap, ◌∙◌}
use mathlib.Core.Bool.{Bool, true, false}
use mathlib.Core.List.{List, [], ◌∷◌, ◌++◌, append_assoc}
use Prim.Native.Nat.{ℕ, zero, suc, ◌+◌, ◌-◌, ◌*◌, ◌/◌, ◌%◌, ◌^◌, ◌≤◌, ◌<◌}
use native.Mathlib.Nat.{pow-suc}
use native.Mathlib.Omega.{arith}
use lib.Dec.{ltb}
use lib.ListN.{length, set, drop, length-set}
use lib.Seq.{drop-cons, get_or-set_same, drop-set-lt}
use borrow.Author.Tests.{lt-ltb, le-ltb}
use Rattle.text.specs.Text.{digits, decimal}

-- ---- any depth that is enough gives the same digits

digits-one : (k n : ℕ) → digits k true n ≡ (48 + n) ∷ []
unfolding digits
digits-one zero n = refl
digits-one (suc k) n = refl

digits_same : (k j n : ℕ) → n ≤ k → n ≤ j → digits k (ltb n 10) n ≡ digits j (ltb n 10) n
unfolding digits
digits_same zero j n a b = rw (lt-ltb n 10 (omega arith)) (sym (digits-one j n))
digits_same (suc k) zero n a b = rw (lt-ltb n 10 (omega arith))
digits_same (suc k) (suc j) n a b = by (ltb n 10) (digits_same k j (n / 10) (omega arith) (omega arith))
  where
    by : (t : Bool) → digits k (ltb (n / 10) 10) (n / 10) ≡ digits j (ltb (n / 10) 10) (n / 10) → digits (suc k) t n ≡ digits (suc j) t n
    by true e = refl
    by false e = ap (λ (l : List ℕ). l ++ (48 + n % 10) ∷ []) e

-- ---- a number of one digit, and one of several

pub decimal-small : (n : ℕ) → n < 10 → decimal n ≡ (48 + n) ∷ []
unfolding decimal digits
decimal-small n h = rw (lt-ltb n 10 h) (digits-one n n)

pub decimal-more : (n : ℕ) → 10 ≤ n → decimal n ≡ decimal (n / 10) ++ (48 + n % 10) ∷ []
unfolding decimal digits
decimal-more zero h = absurd (omega arith)
decimal-more (suc n) h =
    rw (le-ltb (suc n) 10 h) (ap (λ (l : List ℕ). l ++ (48 + suc n % 10) ∷ []) (digits_same n (suc n / 10) (suc n / 10) (omega arith) (omega arith)))

-- a number of several digits that fits i of them has two or more, and without its last one fits one less
pub room-more : (m i : ℕ) → m < 10 ^ i → 10 ≤ m → (2 ≤ i) × (m / 10 < 10 ^ (i - 1))
room-more m zero h l = let none : 10 ^ 0 ≡ 1 = refl in absurd (omega arith)
room-more m (suc zero) h l = let one : 10 ^ 1 ≡ 10 = refl in absurd (omega arith)
room-more m (suc (suc i)) h l =
    let more : 10 ^ suc (suc i) ≡ 10 ^ suc i * 10 = pow-suc 10 (suc i) in
    let less : suc (suc i) - 1 ≡ suc i = omega arith in
    (omega arith, rw less (omega arith))

-- ---- digits stored from the end of an array on

store-before : (d : List ℕ) (i x : ℕ) → 1 ≤ i → i ≤ length d → drop (i - 1) (set d (i - 1) x) ≡ x ∷ drop i d
store-before d i x a b = at (i - 1) (omega arith) (omega arith)
  where
    at : (j : ℕ) → suc j ≡ i → j < length d → drop j (set d j x) ≡ x ∷ drop i d
    at j e l = rw (← e, drop-cons (set d j x) j 0 (rw length-set l), get_or-set_same d j x 0 l, drop-set-lt (suc j) d j x (omega arith))

-- what is left of the number, m, and the digits stored from i on are the whole
module _ (m i : ℕ) (d whole : List ℕ) (a : 1 ≤ i) (b : i ≤ length d) (h : decimal m ++ drop i d ≡ whole) where
  -- the last digit of several
  pub next-digit : 10 ≤ m → decimal (m / 10) ++ drop (i - 1) (set d (i - 1) (48 + m % 10)) ≡ whole
  next-digit l =
      rw (store-before d i (48 + m % 10) a b) (sym (append_assoc (decimal (m / 10)) ((48 + m % 10) ∷ []) (drop i d)) ∙ (rw (decimal-more m l) at h))

  -- the only one
  pub first-digit : m < 10 → drop (i - 1) (set d (i - 1) (48 + m)) ≡ whole
  first-digit l = rw (store-before d i (48 + m) a b) (rw (decimal-small m l) at h)
