-- The ones' complement sum of RFC 1071. Assumes nothing.
use Rattle.std.specs.Prelude.{List, [], ◌∷◌, ℕ, ◌+◌, ◌*◌, ◌/◌, ◌%◌, ◌≤◌}

-- adjacent bytes paired to 16-bit words, the first byte the high one; an odd byte at the end is paired with a zero
unfoldable pub words : List ℕ → List ℕ
words [] = []
words (h ∷ []) = (256 * h) ∷ []
words (h ∷ l ∷ s) = (256 * h + l) ∷ words s

-- two words added with the end-around carry: what overflows the most significant bit is added in at the least significant
unfoldable pub ones_add : ℕ → ℕ → ℕ
ones_add a b = (a + b) % 65536 + (a + b) / 65536

-- every element is a 16-bit word
abbrev pub AreWords : List ℕ → Type 0
AreWords [] = Unit {0}
AreWords (w ∷ ws) = (w ≤ 65535) × AreWords ws

-- words added to a, one after the other
unfoldable pub ones_from : ℕ → List ℕ → ℕ
ones_from a [] = a
ones_from a (w ∷ ws) = ones_from (ones_add a w) ws

abbrev pub ones_sum : List ℕ → ℕ
ones_sum ws = ones_from 0 ws
