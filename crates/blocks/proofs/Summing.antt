-- The program's way of adding the words up: four bytes at a time, as 32-bit numbers with the last byte the high one, added plainly and folded once. By RFC 1071
-- that is the sum with its bytes exchanged (`fours-folded`), of which the check asks the same (`check-swapped`). Assumes nothing.
use mathlib.Core.Path.{◌≡◌, refl, sym, ap, ◌∙◌}
use mathlib.Core.Bool.{false}
use mathlib.Core.List.{List, [], ◌∷◌, map}
use Prim.Native.Nat.{ℕ, zero, suc, ◌+◌, ◌-◌, ◌*◌, ◌/◌, ◌%◌, ◌≤◌, ◌<◌}
use native.Mathlib.Decide.{dec_lt}
use native.Mathlib.Omega.{arith}
use lib.Dec.{eqb}
use lib.ListN.{length, take}
use lib.Seq.{take_all}
use Rattle.std.specs.Int.{w32, from_le_bytes}
use Rattle.std.specs.List.{sum_by}
use Rattle.std.proofs.lemmas.List.Sums.{sum_by-cons}
use Rattle.std.specs.Simd.{first_chunks}
use borrow.Author.Tests.{ne_eqb}
use Rattle.octets.specs.Octets.{AreBytes}
use Rattle.blocks.specs.Ones.{words, AreWords, ones_sum}
use Rattle.blocks.specs.Check.{check_holds}
use Rattle.blocks.specs.Working.{swapped, plain_sum, folded, Are32Bits, halves}
use Rattle.blocks.proofs.Folding.{ones-folded, words-of-bytes, check-block}
use Rattle.blocks.proofs.Rfc1071.{ones-le, halves-words, ones_of_32, exchange-le, any-byte-order}

-- ---- four bytes at a time

-- the numbers; fewer than four bytes at the end are not taken
unfoldable pub fours : List ℕ → List ℕ
fours [] = []
fours (a ∷ []) = []
fours (a ∷ b ∷ []) = []
fours (a ∷ b ∷ c ∷ []) = []
fours (a ∷ b ∷ c ∷ d ∷ s) = (((d * 256 + c) * 256 + b) * 256 + a) ∷ fours s

-- the library's number of four bytes, and the chunks of four of a whole number of them
unfoldable pub number_of : List ℕ → ℕ
number_of s = from_le_bytes w32 s

pub number-is : (s : List ℕ) {n : ℕ} → n ≡ from_le_bytes w32 s → n ≡ number_of s
unfolding number_of
number-is s e = e

fours-summed : (n : ℕ) (s : List ℕ) → length s ≡ 4 * n → sum_by number_of (first_chunks 4 n s) ≡ plain_sum (fours s)
unfolding number_of fours plain_sum
fours-summed zero [] e = refl
fours-summed zero (a ∷ s) e = absurd (omega arith)
fours-summed (suc n) [] e = absurd (omega arith)
fours-summed (suc n) (a ∷ []) e = absurd (omega arith)
fours-summed (suc n) (a ∷ b ∷ []) e = absurd (omega arith)
fours-summed (suc n) (a ∷ b ∷ c ∷ []) e = absurd (omega arith)
fours-summed (suc n) (a ∷ b ∷ c ∷ d ∷ s) e =
    let one : sum_by number_of (first_chunks 4 (suc n) (a ∷ b ∷ c ∷ d ∷ s)) ≡ number_of (a ∷ b ∷ c ∷ d ∷ []) + sum_by number_of (first_chunks 4 n s) =
    sum_by-cons number_of (a ∷ b ∷ c ∷ d ∷ []) (first_chunks 4 n s) in
    omega (arith, one, fours-summed n s (omega arith))

fours-32 : (s : List ℕ) → AreBytes s → Are32Bits (fours s)
unfolding fours
fours-32 [] h = tt
fours-32 (a ∷ []) h = tt
fours-32 (a ∷ b ∷ []) h = tt
fours-32 (a ∷ b ∷ c ∷ []) h = tt
fours-32 (a ∷ b ∷ c ∷ d ∷ s) h = (omega (arith, h 0, h 1, h 2, h 3), fours-32 s (λ i. h (suc (suc (suc (suc i))))))

-- the high 16 bits of such a number, and its low ones, are a word with its bytes exchanged
high_half : (a b c d : ℕ) → a < 256 → b < 256 → (((d * 256 + c) * 256 + b) * 256 + a) / 65536 ≡ d * 256 + c
high_half a b c d h k = omega arith

low_half : (a b c d : ℕ) → a < 256 → b < 256 → (((d * 256 + c) * 256 + b) * 256 + a) % 65536 ≡ b * 256 + a
low_half a b c d h k = omega arith

exchanged : (h l : ℕ) → l < 256 → swapped (256 * h + l) ≡ l * 256 + h
unfolding swapped
exchanged h l k = omega arith

fours-halved : (n : ℕ) (s : List ℕ) → AreBytes s → length s ≡ 4 * n → plain_sum (halves (fours s)) ≡ plain_sum (map swapped (words s))
unfolding plain_sum halves fours words
fours-halved n [] h e = refl
fours-halved n (a ∷ []) h e = absurd (omega arith)
fours-halved n (a ∷ b ∷ []) h e = absurd (omega arith)
fours-halved n (a ∷ b ∷ c ∷ []) h e = absurd (omega arith)
fours-halved n (a ∷ b ∷ c ∷ d ∷ s) h e =
    let rest = fours-halved (n - 1) s (λ i. h (suc (suc (suc (suc i))))) (omega arith) in
    rw (high_half a b c d (h 0) (h 1), low_half a b c d (h 0) (h 1), exchanged a b (h 1), exchanged c d (h 3), rest) (omega arith)

exchanged-words : (ws : List ℕ) → AreWords ws → AreWords (map swapped ws)
exchanged-words [] h = tt
exchanged-words (w ∷ ws) h = (exchange-le w h.0, exchanged-words ws h.1)

pub fours-folded : (s : List ℕ) → AreBytes s → length s ≡ 512 → folded (plain_sum (fours s)) ≡ swapped (ones_sum (words s))
fours-folded s h e =
    let are_words = words-of-bytes s h in
    let numbers = fours-32 s h in
    ones_of_32 (fours s) numbers
    ∙ ones-folded (halves (fours s)) (halves-words (fours s) numbers)
    ∙ ap folded (fours-halved 128 s h e)
    ∙ sym (ones-folded (map swapped (words s)) (exchanged-words (words s) are_words))
    ∙ any-byte-order (words s) are_words

-- as the program adds them up: all chunks of four taken
pub chunks-folded : (s : List ℕ) → AreBytes s → length s ≡ 512 → {k sum : ℕ} {items : List (List ℕ)} → items ≡ first_chunks 4 (length s / 4) s
    → length items ≤ k → sum ≡ sum_by number_of (take k items) → folded sum ≡ swapped (ones_sum (words s))
chunks-folded s h e {k = k} {items = items} is l so =
    let quarter : length s / 4 ≡ 128 = omega arith in
    let all : sum_by number_of (take k items) ≡ plain_sum (fours s) = ap (sum_by number_of) (take_all k items l ∙ is) ∙ rw quarter (fours-summed 128 s e) in
    rw (so, all) (fours-folded s h e)

-- ---- the check

pub check-other : (b : List ℕ) → (length b ≡ 512 → ⊥) → check_holds b ≡ false
unfolding check_holds
check-other b n = rw (ne_eqb (length b) 512 n)

-- 65,535 alone has the bytes of 65,535
exchanged-check : (w : ℕ) → w ≤ 65535 → eqb (swapped w) 65535 ≡ eqb w 65535
unfolding swapped
exchanged-check w h = go (dec_lt w 65535)
  where
    go : Dec (w < 65535) → eqb (w % 256 * 256 + w / 256) 65535 ≡ eqb w 65535
    go (yes l) = ne_eqb (w % 256 * 256 + w / 256) 65535 (λ e. omega arith) ∙ sym (ne_eqb w 65535 (λ e. omega arith))
    go (no l) = let all : w ≡ 65535 = omega arith in rw all

pub check-swapped : (b : List ℕ) → AreBytes b → length b ≡ 512 → check_holds b ≡ eqb (swapped (ones_sum (words b))) 65535
check-swapped b h l = check-block b l ∙ sym (exchanged-check (ones_sum (words b)) (ones-le (words b) (words-of-bytes b h)))
