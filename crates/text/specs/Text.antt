-- Text, as the list of its bytes: numbers in decimal, bytes in hex, words and lines. Assumes nothing.
use Rattle.std.specs.Prelude.{Bool, true, false, cond, List, [], ◌∷◌, ◌++◌, ℕ, zero, suc, ◌+◌, ◌-◌, ◌/◌, ◌%◌, ltb}

-- ---- numbers

-- the digits of n: one where n is below 10, else those of n / 10 and then the last. (The first argument only bounds the depth, and n is enough.)
unfoldable pub digits : ℕ → Bool → ℕ → List ℕ
digits zero one n = (48 + n) ∷ []
digits (suc k) true n = (48 + n) ∷ []
digits (suc k) false n = digits k (ltb (n / 10) 10) (n / 10) ++ (48 + n % 10) ∷ []

-- a number in decimal, without leading zeros; 0 is "0"
unfoldable pub decimal : ℕ → List ℕ
unfolding digits
decimal n = digits n (ltb n 10) n

-- "0" to "9", then "a" to "f"
abbrev pub hex_digit : ℕ → ℕ
hex_digit d = cond (ltb d 10) (48 + d) (87 + d)

-- bytes in hex, two digits each, the high one first
unfoldable pub hex : List ℕ → List ℕ
hex [] = []
hex (x ∷ s) = hex_digit (x / 16) ∷ hex_digit (x % 16) ∷ hex s

-- ---- lines

-- each word after one space
unfoldable pub spaced : List (List ℕ) → List ℕ
spaced [] = []
spaced (w ∷ ws) = (32 ∷ w) ++ spaced ws

-- a line: words with one space between them, ended by a line feed
unfoldable pub line : List ℕ → List (List ℕ) → List ℕ
unfolding spaced
line w ws = w ++ (spaced ws ++ (10 ∷ []))

-- ---- texts one after another

-- n of them: f i, f (i + 1) and so on
unfoldable pub texts_n : (ℕ → List ℕ) → ℕ → ℕ → List ℕ
texts_n f i zero = []
texts_n f i (suc n) = f i ++ texts_n f (i + 1) n

-- those from i up to, not including, e
unfoldable pub texts : (ℕ → List ℕ) → ℕ → ℕ → List ℕ
unfolding texts_n
texts f i e = texts_n f i (e - i)
