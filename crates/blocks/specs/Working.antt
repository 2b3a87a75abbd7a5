-- How the program adds the words of a block up: its own working, which contracts of private functions and laws of the sum cite. No contract of a public
-- function rests on it. Assumes nothing.
use Rattle.std.specs.Prelude.{List, [], ◌∷◌, ℕ, zero, suc, ◌+◌, ◌*◌, ◌/◌, ◌%◌, ◌≤◌}

-- a word with its two bytes exchanged
unfoldable pub swapped : ℕ → ℕ
swapped w = w % 256 * 256 + w / 256

-- words added up without carries
unfoldable pub plain_sum : List ℕ → ℕ
plain_sum [] = 0
plain_sum (w ∷ ws) = w + plain_sum ws

-- a plain sum with every carry added in: 0 stays 0, any other number comes to lie from 1 to 65,535
unfoldable pub folded : ℕ → ℕ
folded zero = 0
folded (suc t) = t % 65535 + 1

-- 32-bit numbers; each by its high and its low 16 bits
abbrev pub Are32Bits : List ℕ → Type 0
Are32Bits [] = Unit {0}
Are32Bits (n ∷ ns) = (n ≤ 4294967295) × Are32Bits ns

unfoldable pub halves : List ℕ → List ℕ
halves [] = []
halves (n ∷ ns) = (n / 65536) ∷ (n % 65536) ∷ halves ns
