-- The sum and the check on examples, computed: the worked example of RFC 1071, section 3, and blocks. Assumes nothing.
use Rattle.std.specs.Prelude.{◌≡◌, refl, true, false, List, [], ◌∷◌, ◌++◌, map, ℕ, replicate}
use Rattle.blocks.specs.Ones.{words, ones_add, ones_from, ones_sum}
use Rattle.blocks.specs.Check.{check_holds}
use Rattle.blocks.specs.Working.{swapped, plain_sum}

-- ---- RFC 1071, section 3: the bytes 00 01 f2 03 f4 f5 f6 f7

example : List ℕ
example = 0x00 ∷ 0x01 ∷ 0xf2 ∷ 0x03 ∷ 0xf4 ∷ 0xf5 ∷ 0xf6 ∷ 0xf7 ∷ []

-- their words add up to 2ddf0, and the carries make ddf2 of it
example-plain : plain_sum (words example) ≡ 0x2ddf0
unfolding example words plain_sum
example-plain = refl

example-sum : ones_sum (words example) ≡ 0xddf2
unfolding example words ones_from ones_add
example-sum = refl

-- with the bytes of each word exchanged they add up to 1f2dc, and the carry makes f2dd
example-swapped-plain : plain_sum (map swapped (words example)) ≡ 0x1f2dc
unfolding example words plain_sum swapped
example-swapped-plain = refl

example-swapped : ones_sum (map swapped (words example)) ≡ 0xf2dd
unfolding example words ones_from ones_add swapped
example-swapped = refl

-- ---- blocks: two words among zeros, the second at the end, where the check stands

block : ℕ → ℕ → ℕ → ℕ → List ℕ
block a b c d = (a ∷ b ∷ []) ++ (replicate 508 0 ++ (c ∷ d ∷ []))

check-holds : check_holds (block 0x12 0x34 0xed 0xcb) ≡ true
unfolding block check_holds
check-holds = refl

check-fails : check_holds (block 0x12 0x34 0xed 0xcc) ≡ false
unfolding block check_holds
check-fails = refl

-- where the other words make 65,535, a check of 0 and one of 65,535 both do
check-either : (check_holds (block 0xff 0xff 0 0) ≡ true) × (check_holds (block 0xff 0xff 0xff 0xff) ≡ true)
unfolding block check_holds
check-either = (refl, refl)
