-- How long texts are. Assumes nothing.
use mathlib.Core.Path.{◌≡◌, refl, ap, ◌∙◌}
use mathlib.Core.Bool.{Bool, true, false}
use mathlib.Core.List.{List, [], ◌∷◌, ◌++◌}
use Prim.Native.Nat.{ℕ, zero, suc, ◌+◌, ◌-◌, ◌*◌, ◌/◌, ◌%◌, ◌^◌, ◌≤◌, ◌<◌}
use native.Mathlib.Nat.{suc-mul}
use native.Mathlib.Omega.{arith}
use lib.Dec.{ltb}
use lib.ListN.{length, length-append}
use borrow.Author.Tests.{ltb-true, ltb-false}
use Rattle.text.specs.Text.{decimal, hex, spaced, line, texts_n, texts}
use Rattle.text.proofs.Decimal.{decimal-small, decimal-more, room-more}

-- ---- numbers

small-length : (n : ℕ) → n < 10 → length (decimal n) ≡ 1
small-length n h = rw (decimal-small n h)

more-length : (n : ℕ) → 10 ≤ n → length (decimal n) ≡ length (decimal (n / 10)) + 1
more-length n h = ap length (decimal-more n h) ∙ length-append (decimal (n / 10)) ((48 + n % 10) ∷ [])

-- a number below 10 ^ k has at most k digits
pub decimal-length : (k n : ℕ) → 1 ≤ k → n < 10 ^ k → length (decimal n) ≤ k
decimal-length zero n a h = absurd (omega arith)
decimal-length (suc k) n a h = by (ltb n 10) refl (decimal-length k (n / 10))
  where
    by : (t : Bool) → ltb n 10 ≡ t → (1 ≤ k → n / 10 < 10 ^ k → length (decimal (n / 10)) ≤ k) → length (decimal n) ≤ suc k
    by true e less = omega (arith, small-length n (ltb-true n 10 e))
    by false e less =
        let several : 10 ≤ n = ltb-false n 10 e in
        let room = room-more n (suc k) h several in
        let before : suc k - 1 ≡ k = omega arith in
        let below : n / 10 < 10 ^ k = rw before at room.1 in
        omega (arith, more-length n several, less (omega arith) below)

pub u64-length : (n : ℕ) → n < 2 ^ 64 → length (decimal n) ≤ 20
u64-length n h =
    let bound : 2 ^ 64 ≡ 18446744073709551616 = refl in
    let room : 10 ^ 20 ≡ 100000000000000000000 = refl in
    decimal-length 20 n (omega arith) (omega arith)

pub hex-length : (s : List ℕ) → length (hex s) ≡ 2 * length s
unfolding hex
hex-length [] = refl
hex-length (x ∷ s) = omega (arith, hex-length s)

-- ---- lines

pub no-words-length : length (spaced []) ≡ 0
unfolding spaced
no-words-length = refl

pub spaced-length : (w : List ℕ) (ws : List (List ℕ)) → length (spaced (w ∷ ws)) ≡ 1 + length w + length (spaced ws)
unfolding spaced
spaced-length w ws = omega (arith, length-append w (spaced ws))

pub line-length : (w : List ℕ) (ws : List (List ℕ)) → length (line w ws) ≡ length w + length (spaced ws) + 1
unfolding line
line-length w ws = omega (arith, length-append w (spaced ws ++ (10 ∷ [])), length-append (spaced ws) (10 ∷ []))

-- ---- texts one after another, each at most m long

texts_n-length : (f : ℕ → List ℕ) (m i n : ℕ) → ((k : ℕ) → i ≤ k → k < i + n → length (f k) ≤ m) → length (texts_n f i n) ≤ n * m
unfolding texts_n
texts_n-length f m i zero h = omega arith
texts_n-length f m i (suc n) h =
    let rest = texts_n-length f m (i + 1) n (λ k a b. h k (omega arith) (omega arith)) in
    rw suc-mul (omega (arith, length-append (f i) (texts_n f (i + 1) n), h i (omega arith) (omega arith)))

pub texts-length : (f : ℕ → List ℕ) (m i e : ℕ) → ((k : ℕ) → i ≤ k → k < e → length (f k) ≤ m) → length (texts f i e) ≤ (e - i) * m
unfolding texts
texts-length f m i e h = texts_n-length f m i (e - i) (λ k a b. h k a (omega arith))
