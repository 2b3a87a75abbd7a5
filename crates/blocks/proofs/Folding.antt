-- The words of a block added up plainly and folded once give the ones' complement sum: `ones-folded`. Then the words of bytes, and the check of a block.
-- Assumes nothing.
use mathlib.Core.Path.{◌≡◌, refl, sym, ap, ◌∙◌}
use mathlib.Core.List.{List, [], ◌∷◌, ◌++◌}
use Prim.Native.Nat.{ℕ, zero, suc, ◌+◌, ◌-◌, ◌*◌, ◌/◌, ◌%◌, ◌≤◌, ◌<◌}
use native.Mathlib.Nat.{add-zero, zero-add, add_assoc}
use native.Mathlib.Decide.{dec_lt}
use native.Mathlib.Omega.{arith}
use lib.Dec.{eqb, lit≤}
use lib.ListN.{length}
use borrow.Author.Tests.{eq-eqb}
use Rattle.octets.specs.Octets.{AreBytes}
use Rattle.blocks.specs.Ones.{words, ones_add, AreWords, ones_from, ones_sum}
use Rattle.blocks.specs.Check.{check_holds}
use Rattle.blocks.specs.Working.{plain_sum, folded}

-- ---- folding

pub folded-none : (t : ℕ) → t ≡ 0 → folded t ≡ 0
unfolding folded
folded-none t e = rw e

pub folded-some : (t : ℕ) → (t ≡ 0 → ⊥) → folded t ≡ (t - 1) % 65535 + 1
unfolding folded
folded-some zero n = absurd (n refl)
folded-some (suc t) n = let p : suc t - 1 ≡ t = omega arith in rw p

pub folded-le : (t : ℕ) → folded t ≤ 65535
unfolding folded
folded-le zero = lit≤ tt
folded-le (suc t) = omega arith

-- a word is folded already
pub folded-word : (t : ℕ) → t ≤ 65535 → folded t ≡ t
unfolding folded
folded-word zero h = refl
folded-word (suc t) h = omega arith

-- to fold a part first changes nothing
pub folded-add : (t u : ℕ) → folded (folded t + u) ≡ folded (t + u)
folded-add zero u = rw (folded-none 0 refl)
folded-add (suc t) u =
    let f = folded-some (suc t) (λ e. omega arith) in
    folded-some (folded (suc t) + u) (λ e. omega arith) ∙ (omega arith) ∙ sym (folded-some (suc t + u) (λ e. omega arith))

-- multiples of 65,535 change nothing, if 0 stays 0
pub folded-alike : (t u : ℕ) → t ≤ u → u ≤ 65536 * t → u % 65535 ≡ t % 65535 → folded u ≡ folded t
unfolding folded
folded-alike zero u l m e = let none : u ≡ 0 = omega arith in rw none
folded-alike (suc t) zero l m e = absurd (omega arith)
folded-alike (suc t) (suc u) l m e = ap (λ (x : ℕ). x + 1) (less_one t u e)
  where
    less_one : (t u : ℕ) → suc u % 65535 ≡ suc t % 65535 → u % 65535 ≡ t % 65535
    less_one t u e = omega arith

-- the end-around carry folds a sum of two words
pub ones-add : (a b : ℕ) → a ≤ 65535 → b ≤ 65535 → ones_add a b ≡ folded (a + b)
unfolding ones_add
ones-add a b h k = go (dec_lt 0 (a + b)) (dec_lt 65535 (a + b))
  where
    go : Dec (0 < a + b) → Dec (65535 < a + b) → (a + b) % 65536 + (a + b) / 65536 ≡ folded (a + b)
    go (no n) d = omega (arith, folded-none (a + b) (omega arith))
    go (yes m) (yes o) = omega (arith, folded-some (a + b) (λ e. omega arith))
    go (yes m) (no o) = omega (arith, folded-word (a + b) (omega arith))

-- the sum of words is their plain sum, folded
ones-from : (t : ℕ) (ws : List ℕ) → AreWords ws → ones_from (folded t) ws ≡ folded (t + plain_sum ws)
unfolding ones_from plain_sum
ones-from t [] h = rw add-zero
ones-from t (w ∷ ws) h =
    rw (ones-add (folded t) w (folded-le t) h.0, folded-add t w) (ones-from (t + w) ws h.1 ∙ ap folded (add_assoc t w (plain_sum ws)))

pub ones-folded : (ws : List ℕ) → AreWords ws → ones_sum ws ≡ folded (plain_sum ws)
unfolding folded
ones-folded ws h = ones-from 0 ws h ∙ ap folded (zero-add (plain_sum ws))

-- ---- the words of bytes

pub words-of-bytes : (s : List ℕ) → AreBytes s → AreWords (words s)
unfolding words
words-of-bytes [] h = tt
words-of-bytes (a ∷ []) h = (omega (arith, h 0), tt)
words-of-bytes (a ∷ b ∷ s) h = (omega (arith, h 0, h 1), words-of-bytes s (λ i. h (suc (suc i))))

-- ---- an even number of bytes, and the rest

pub words_append : (n : ℕ) (a b : List ℕ) → length a ≡ n + n → words (a ++ b) ≡ words a ++ words b
unfolding words
words_append zero [] b e = refl
words_append zero (x ∷ a) b e = absurd (omega arith)
words_append (suc n) [] b e = absurd (omega arith)
words_append (suc n) (x ∷ []) b e = absurd (omega arith)
words_append (suc n) (x ∷ y ∷ a) b e = ap (λ (l : List ℕ). (256 * x + y) ∷ l) (words_append n a b (omega arith))

-- ---- the check of a block

pub check-block : (b : List ℕ) → length b ≡ 512 → check_holds b ≡ eqb (ones_sum (words b)) 65535
unfolding check_holds
check-block b l = rw (eq-eqb (length b) 512 l)
