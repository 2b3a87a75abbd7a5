-- What RFC 1071 says of the sum: words may be added in any order and in any grouping, also as 32-bit numbers, and, but for the swap itself, with their bytes
-- in either order. The check word is the complement of the sum of the others: `check-word`. (The RFC's worked example is in specs/Examples.) Assumes nothing.
use mathlib.Core.Path.{◌≡◌, refl, sym, ap, ◌∙◌}
use mathlib.Core.Bool.{true, false}
use mathlib.Core.List.{List, [], ◌∷◌, ◌++◌, map, Perm, Permᴰ}
use mathlib.Core.Logic.{◌⊎◌, inl, inr, ◌↔◌, ∥∥₁_elim}
use Prim.Native.Nat.{ℕ, ◌+◌, ◌-◌, ◌*◌, ◌/◌, ◌%◌, ◌≤◌, ◌<◌}
use native.Mathlib.Nat.{ℕ_set, add_comm}
use native.Mathlib.Decide.{dec_lt}
use native.Mathlib.Omega.{arith}
use lib.ListN.{length, replicate, length-append}
use Rattle.answer.proofs.Tests.{eqb_is}
use Rattle.octets.specs.Octets.{AreBytes}
use Rattle.blocks.specs.Layout.{check_at}
use Rattle.blocks.specs.Ones.{words, ones_add, AreWords, ones_from, ones_sum}
use Rattle.blocks.proofs.Folding.{folded-le, folded-add, folded-alike, ones-add, ones-folded, words-of-bytes, words_append, check-block}
use Rattle.blocks.specs.Check.{check_holds}
use Rattle.blocks.specs.Working.{swapped, plain_sum, folded, Are32Bits, halves}

-- ---- groups of words

carry-le : (a b : ℕ) → a ≤ 65535 → b ≤ 65535 → ones_add a b ≤ 65535
unfolding ones_add
carry-le a b h k = omega arith

pub ones-comm : (a b : ℕ) → ones_add a b ≡ ones_add b a
unfolding ones_add
ones-comm a b = rw (add_comm a b)

-- three words added are their plain sum, folded
three-folded : (a b c : ℕ) → a ≤ 65535 → b ≤ 65535 → c ≤ 65535 → ones_add (ones_add a b) c ≡ folded (a + b + c)
three-folded a b c h k l = rw (ones-add a b h k) (ones-add (folded (a + b)) c (folded-le (a + b)) l ∙ folded-add (a + b) c)

pub ones-assoc : (a b c : ℕ) → a ≤ 65535 → b ≤ 65535 → c ≤ 65535 → ones_add (ones_add a b) c ≡ ones_add a (ones_add b c)
ones-assoc a b c h k l = three-folded a b c h k l ∙ ap folded (omega arith) ∙ sym (three-folded b c a k l h) ∙ ones-comm (ones_add b c) a

pub ones-le : (ws : List ℕ) → AreWords ws → ones_sum ws ≤ 65535
ones-le ws h = rw (ones-folded ws h) (folded-le (plain_sum ws))

-- a word and a group, and so two groups, summed apart and added
from-apart : (a b : ℕ) (ws : List ℕ) → a ≤ 65535 → b ≤ 65535 → AreWords ws → ones_from (ones_add a b) ws ≡ ones_add a (ones_from b ws)
unfolding ones_from
from-apart a b [] h k l = refl
from-apart a b (w ∷ ws) h k l = rw (ones-assoc a b w h k l.0) (from-apart a (ones_add b w) ws h (carry-le b w k l.0) l.1)

ones-append : (a : ℕ) (ws vs : List ℕ) → ones_from a (ws ++ vs) ≡ ones_from (ones_from a ws) vs
unfolding ones_from
ones-append a [] vs = refl
ones-append a (w ∷ ws) vs = ones-append (ones_add a w) ws vs

pub ones-groups : (ws vs : List ℕ) → AreWords ws → AreWords vs → ones_sum (ws ++ vs) ≡ ones_add (ones_sum ws) (ones_sum vs)
unfolding ones_add
ones-groups ws vs h k =
    let sum = ones_sum ws in
    let zero_more : ones_add sum 0 ≡ sum = omega (arith, ones-le ws h) in
    ones-append 0 ws vs ∙ ap (λ (x : ℕ). ones_from x vs) (sym zero_more) ∙ from-apart sum 0 vs (ones-le ws h) (omega arith) k

-- 32-bit numbers added up plainly and folded are the sum of their 16-bit halves: a number and its halves differ by a multiple of 65,535
pub halves-words : (ns : List ℕ) → Are32Bits ns → AreWords (halves ns)
unfolding halves
halves-words [] h = tt
halves-words (n ∷ ns) h = (omega arith, (omega arith, halves-words ns h.1))

halved : (ns : List ℕ) → (k : ℕ) × (plain_sum ns ≡ plain_sum (halves ns) + 65535 * k) × (k ≤ plain_sum (halves ns))
unfolding plain_sum halves
halved [] = (0, refl, omega arith)
halved (n ∷ ns) = let rest = halved ns in (n / 65536 + rest.0, omega arith, omega arith)

pub ones_of_32 : (ns : List ℕ) → Are32Bits ns → folded (plain_sum ns) ≡ ones_sum (halves ns)
ones_of_32 ns h =
    let parts = halved ns in
    let whole = plain_sum ns in
    let two = plain_sum (halves ns) in
    folded-alike two whole (omega arith) (omega arith) (multiple two whole parts.0 parts.1) ∙ sym (ones-folded (halves ns) (halves-words ns h))
  where
    multiple : (a b k : ℕ) → b ≡ a + 65535 * k → b % 65535 ≡ a % 65535
    multiple a b k e = omega arith

-- ---- the order of the words

reordered : {ws vs : List ℕ} → Permᴰ ws vs → AreWords ws → AreWords vs × (plain_sum ws ≡ plain_sum vs)
unfolding plain_sum
reordered Permᴰ.nil h = (h, refl)
reordered (Permᴰ.cons e p) h =
    let r = reordered p h.1 in
    ((rw (← e) h.0, r.0), omega (arith, r.1))
reordered (Permᴰ.swap e f) h = ((omega arith, (omega arith, h.1.1)), omega arith)
reordered (Permᴰ.trans p q) h =
    let r = reordered p h in
    let s = reordered q r.0 in
    (s.0, r.1 ∙ s.1)

-- the same words in any order have the same sum
pub any_order : (ws vs : List ℕ) → AreWords ws → Perm ws vs → ones_sum ws ≡ ones_sum vs
any_order ws vs h p =
    ∥∥₁_elim p (ℕ_set (ones_sum ws) (ones_sum vs)) (λ d.
    let r = reordered d h in
    ones-folded ws h ∙ ap folded r.1 ∙ sym (ones-folded vs r.0))

-- ---- the order of the bytes in the words

-- both the exchange and the end-around carry go by multiples of 65,535, and neither makes 0 of what is not
exchange : (w : ℕ) → swapped w + 65535 * (w / 256) ≡ 256 * w
unfolding swapped
exchange w = omega arith

pub exchange-le : (w : ℕ) → w ≤ 65535 → swapped w ≤ 65535
unfolding swapped
exchange-le w h = omega arith

exchange-zero : (w : ℕ) → (swapped w ≡ 0 → w ≡ 0) × (w ≡ 0 → swapped w ≡ 0)
unfolding swapped
exchange-zero w = (λ e. omega arith, λ e. rw e)

carry : (a b : ℕ) → ones_add a b + 65535 * ((a + b) / 65536) ≡ a + b
unfolding ones_add
carry a b = omega arith

carry-zero : (a b : ℕ) → (ones_add a b ≡ 0 → a + b ≡ 0) × (a + b ≡ 0 → ones_add a b ≡ 0)
unfolding ones_add
carry-zero a b = (λ e. omega arith, λ e. rw e)

-- words that differ by such multiples are the same, if they are 0 together
alike : (x y k m : ℕ) → x ≤ 65535 → y ≤ 65535 → x + 65535 * k ≡ y + 65535 * m → (x ≡ 0 → y ≡ 0) → (y ≡ 0 → x ≡ 0) → x ≡ y
alike x y k m hx hy e p q = go (dec_lt 0 x) (dec_lt 0 y)
  where
    go : Dec (0 < x) → Dec (0 < y) → x ≡ y
    go (yes a) (yes b) = omega arith
    go (yes a) (no b) = absurd (let z = q (omega arith) in omega arith)
    go (no a) _ = let z = p (omega arith) in omega arith

swapped-add : (a b : ℕ) → a ≤ 65535 → b ≤ 65535 → swapped (ones_add a b) ≡ ones_add (swapped a) (swapped b)
swapped-add a b h k =
    alike (swapped (ones_add a b)) (ones_add (swapped a) (swapped b)) (ones_add a b / 256 + 256 * ((a + b) / 65536)) ((swapped a + swapped b) / 65536 + a / 256 + b / 256)
    (exchange-le (ones_add a b) (carry-le a b h k)) (carry-le (swapped a) (swapped b) (exchange-le a h) (exchange-le b k))
    (omega (arith, exchange (ones_add a b), carry a b, carry (swapped a) (swapped b), exchange a, exchange b))
    (λ e.
    let sum = (carry-zero a b).0 ((exchange-zero (ones_add a b)).0 e) in
    (carry-zero (swapped a) (swapped b)).1 (omega (arith, (exchange-zero a).1 (omega arith), (exchange-zero b).1 (omega arith))))
    (λ e.
    let sum = (carry-zero (swapped a) (swapped b)).0 e in
    (exchange-zero (ones_add a b)).1 ((carry-zero a b).1 (omega (arith, (exchange-zero a).0 (omega arith), (exchange-zero b).0 (omega arith)))))

swapped-from : (a : ℕ) (ws : List ℕ) → a ≤ 65535 → AreWords ws → ones_from (swapped a) (map swapped ws) ≡ swapped (ones_from a ws)
unfolding ones_from
swapped-from a [] h k = refl
swapped-from a (w ∷ ws) h k =
    ap (λ (x : ℕ). ones_from x (map swapped ws)) (sym (swapped-add a w h k.0)) ∙ swapped-from (ones_add a w) ws (carry-le a w h k.0) k.1

-- exchanging the bytes of every word exchanges those of the sum
pub any-byte-order : (ws : List ℕ) → AreWords ws → ones_sum (map swapped ws) ≡ swapped (ones_sum ws)
unfolding swapped
any-byte-order ws h = swapped-from 0 ws (omega arith) h

-- ---- the check

-- the word that makes the sum 65,535
completes : (s w : ℕ) → s ≤ 65535 → w ≤ 65535 → (ones_add s w ≡ 65535) ↔ ((w ≡ 65535 - s) ⊎ ((s ≡ 65535) × (w ≡ 65535)))
unfolding ones_add
completes s w h k = (λ e. go e (dec_lt (s + w) 65536), back)
  where
    go : (s + w) % 65536 + (s + w) / 65536 ≡ 65535 → Dec (s + w < 65536) → (w ≡ 65535 - s) ⊎ ((s ≡ 65535) × (w ≡ 65535))
    go e (yes l) = inl (omega arith)
    go e (no l) = inr (omega arith)

    back : (w ≡ 65535 - s) ⊎ ((s ≡ 65535) × (w ≡ 65535)) → (s + w) % 65536 + (s + w) / 65536 ≡ 65535
    back (inl e) = omega arith
    back (inr e) = omega arith

-- a block passes exactly where its last word is the complement of the sum of the others, or 65,535 where that complement is 0
module _ (p : List ℕ) (bytes : AreBytes p) (size : length p ≡ check_at) where
  sum-with : (w : ℕ) → w ≤ 65535 → ones_sum (words (p ++ (w / 256 ∷ w % 256 ∷ []))) ≡ ones_add (ones_sum (words p)) w
  unfolding words ones_from ones_add
  sum-with w h =
      let word : 256 * (w / 256) + w % 256 ≡ w = omega arith in
      let pairs : words (p ++ (w / 256 ∷ w % 256 ∷ [])) ≡ words p ++ (w ∷ []) = words_append 255 p (w / 256 ∷ w % 256 ∷ []) size ∙ rw word in
      ap ones_sum pairs
      ∙ ones-groups (words p) (w ∷ []) (words-of-bytes p bytes) (h, tt)
      ∙ ap (ones_add (ones_sum (words p))) (omega arith)

  pub check-word : (w : ℕ) → w ≤ 65535
      → (check_holds (p ++ (w / 256 ∷ w % 256 ∷ [])) ≡ true) ↔ ((w ≡ 65535 - ones_sum (words p)) ⊎ ((ones_sum (words p) ≡ 65535) × (w ≡ 65535)))
  check-word w h =
      let b = p ++ (w / 256 ∷ w % 256 ∷ []) in
      let long : length b ≡ 512 = length-append p (w / 256 ∷ w % 256 ∷ []) ∙ rw size in
      rw (check-block b long, sum-with w h) (simp eqb_is (completes (ones_sum (words p)) w (ones-le (words p) (words-of-bytes p bytes)) h))

-- the all-zero block does not
pub all-zero-fails : check_holds (replicate 512 0) ≡ false
unfolding check_holds
all-zero-fails = refl
