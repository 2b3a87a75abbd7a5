-- What the functions on runs ask: a run cut out of a window of 64 bits and pasted into it, bytes stored one after the other, whether a run fits.
-- Assumes nothing.
use mathlib.Core.Path.{◌≡◌, refl, sym, ap, ◌∙◌, subst}
use mathlib.Core.List.{List}
use Prim.Native.Nat.{ℕ, zero, suc, ◌+◌, ◌-◌, ◌*◌, ◌/◌, ◌%◌, ◌^◌, ◌≤◌, ◌<◌}
use native.Mathlib.Nat.{mul-div-mul_right, mod-lt, mod-eq_of_lt, mod-one, zero-mod, add-mul, div-one}
use native.Mathlib.Decide.{dec_lt}
use native.Mathlib.Omega.{arith}
use lib.Arith.{digits_lt}
use lib.Dec.{lit<}
use lib.ListN.{length, replicate, take, drop, length-append, length-take, length-drop}
use lib.Pow.{field, pow_pos, pow-add, split, shr-shr, shr_lt, shl_exact, high, low}
use lib.Seq.{get_or-take, get_or-drop}
use borrow.Author.Tests.{lt-ltb, le-ltb}
use borrow.Rule.Slice.PartMut.{put_mid}
use Rattle.std.specs.Prelude.{Ok, Err}
use Rattle.std.specs.Int.{w64, byte_at, bytes_high_first, to_be_bytes}
use Rattle.std.proofs.lemmas.Nat.{from_be_bytes-to_be_bytes_8}
use Rattle.std.proofs.lemmas.Slice.{take-put_mid_below, drop-put_mid, between-put_mid}
use Rattle.octets.specs.Octets.{AreBytes, byte, be}
use Rattle.bits.specs.declared.RunFault.{RunFault}
use Rattle.octets.proofs.Octets.{zeros, be_eight}
use Rattle.bits.specs.Bits.{bit, num, value, spelled, touched}
use Rattle.bits.specs.Writes.{new_bit, put}
use Rattle.bits.specs.Runs.{RunCheck, fit_of, bytes_answer}
use Rattle.bits.proofs.Num.{num-ext, num-digits, num-split, num-first, num-at}
use Rattle.bits.proofs.Bits.{bit-lt, bit-same, value-lt, value-be}
use Rattle.bits.proofs.Put.{by-run, new-before, new_in, new-after, new-lt, put-ext}
use Rattle.bits.proofs.Writes.{wrote-put, part-spelled}
use Rattle.bits.specs.Working.{pasted}

-- ---- a field of a number of 64 bits

-- by two shifts: what stands above it is shifted out, then what stands below
pub shifted : (x a w : ℕ) → a + w ≤ 64 → x * 2 ^ a % 2 ^ 64 / 2 ^ (64 - w) ≡ x / 2 ^ (64 - (a + w)) % 2 ^ w
shifted x a w h =
    let r = 64 - (a + w) in
    let all : w + (64 - w) ≡ 64 = omega arith in
    let below : 64 - w ≡ r + a = omega arith in
    subst (λ (n : ℕ). x * 2 ^ a % 2 ^ n / 2 ^ (64 - w) ≡ x * 2 ^ a / 2 ^ (64 - w) % 2 ^ w) all (field (x * 2 ^ a) w (64 - w))
    ∙ ap (λ (n : ℕ). n % 2 ^ w)
    (ap (λ (n : ℕ). x * 2 ^ a / 2 ^ n) below ∙ ap (λ (n : ℕ). x * 2 ^ a / n) (pow-add 2 r a) ∙ mul-div-mul_right x (2 ^ r) (pow_pos a))

-- no bits of it
pub cut-none : (x r w : ℕ) → w ≡ 0 → 0 ≡ x / 2 ^ r % 2 ^ w
cut-none x r w e = rw e (sym (mod-one (x / 2 ^ r)))

-- v put in its place: the old field's part is taken out of x, and the new one's added
module _ (x w r v : ℕ) (fits : w + r ≤ 64) (x_Fits : x < 2 ^ 64) (small : v < 2 ^ w) where
  old : ℕ
  old = x / 2 ^ r % 2 ^ w

  parts : x ≡ x / 2 ^ r / 2 ^ w * 2 ^ w * 2 ^ r + old * 2 ^ r + x % 2 ^ r
  unfolding old
  parts =
      sym (split x r) ∙ ap (λ (y : ℕ). y * 2 ^ r + x % 2 ^ r) (sym (split (x / 2 ^ r) w))
      ∙ ap (λ (y : ℕ). y + x % 2 ^ r) (add-mul (x / 2 ^ r / 2 ^ w * 2 ^ w) old (2 ^ r))

  old-shl : (old * 2 ^ r) % 2 ^ 64 ≡ old * 2 ^ r
  unfolding old
  old-shl = shl_exact w r 64 (mod-lt (x / 2 ^ r) (pow_pos w)) fits

  new-shl : (v * 2 ^ r) % 2 ^ 64 ≡ v * 2 ^ r
  new-shl = shl_exact w r 64 small fits

  paste-lt : pasted x w r v < 2 ^ 64
  paste-lt =
      let h = 64 - (w + r) in
      let all : h + w + r ≡ 64 = omega arith in
      let above : h + (r + w) ≡ 64 = omega arith in
      let hi : x / 2 ^ r / 2 ^ w < 2 ^ h = rw (shr-shr x r w) (shr_lt h (r + w) (rw above x_Fits)) in
      subst (λ (n : ℕ). pasted x w r v < 2 ^ n) all
      (rw (pow-add 2 (h + w) r, pow-add 2 h w) (digits_lt (digits_lt hi small) (mod-lt x (pow_pos r))))

  -- the steps, as the program has them: what they come to, and that none passes 64 bits
  pub pasting : {o : ℕ} → o ≡ x / 2 ^ r % 2 ^ w → ((o * 2 ^ r) % 2 ^ 64 ≤ x) × (x - (o * 2 ^ r) % 2 ^ 64 + (v * 2 ^ r) % 2 ^ 64 ≡ pasted x w r v) × (pasted x w r v < 2 ^ 64)
  unfolding old
  pasting e = rw e (omega (arith, parts, old-shl), omega (arith, parts, old-shl, new-shl, add-mul (x / 2 ^ r / 2 ^ w * 2 ^ w) v (2 ^ r)), paste-lt)

-- nothing is pasted into no bits
pub paste_none : (x w r v : ℕ) → w ≡ 0 → v < 2 ^ w → x ≡ pasted x w r v
paste_none x w r v e small =
    let none : v ≡ 0 = let one : v < 2 ^ 0 = rw e at small in omega arith in
    rw (e, none, div-one (x / 2 ^ r)) (omega (arith, split x r))

-- in the middle of three parts
paste-parts : (h m l w r v : ℕ) → m < 2 ^ w → l < 2 ^ r → pasted ((h * 2 ^ w + m) * 2 ^ r + l) w r v ≡ (h * 2 ^ w + v) * 2 ^ r + l
paste-parts h m l w r v hm hl = rw (high (h * 2 ^ w + m) r hl, low (h * 2 ^ w + m) r hl, high h w hm)

-- ---- a run in a window of 64 bits that begins with byte f

module _ (b : List ℕ) (s w f : ℕ) (from : 8 * f ≤ s) (narrow : s + w ≤ 8 * f + 64) where
  abbrev skipped : ℕ
  skipped = s - 8 * f

  abbrev below : ℕ
  below = 64 - (s - 8 * f + w)

  -- any bits of the window: those before the run, the run, those after it
  parts-of : (g : ℕ → ℕ) → num g (8 * f) 64 ≡ (num g (8 * f) skipped * 2 ^ w + num g s w) * 2 ^ below + num g (s + w) below
  parts-of g =
      let len : 64 ≡ skipped + w + below = omega arith in
      let start : 8 * f + skipped ≡ s = omega arith in
      let end : 8 * f + (skipped + w) ≡ s + w = omega arith in
      ap (num g (8 * f)) len ∙ num-split g (8 * f) skipped w below ∙ rw (start, end)

  -- the run, cut out of it
  pub window-cut : value b (8 * f) 64 / 2 ^ (64 - (s - 8 * f + w)) % 2 ^ w ≡ value b s w
  window-cut =
      rw (parts-of (bit b), high (value b (8 * f) skipped * 2 ^ w + value b s w) below (value-lt b (s + w) below))
      (low (value b (8 * f) skipped) w (value-lt b s w))

  -- with v pasted into the run, it spells the bits after the write
  pub window-pasted : (v : ℕ) → v < 2 ^ w → pasted (value b (8 * f) 64) w (64 - (s - 8 * f + w)) v ≡ num (new_bit b s w v) (8 * f) 64
  window-pasted v small =
      ap (λ (x : ℕ). pasted x w below v) (parts-of (bit b))
      ∙ paste-parts (value b (8 * f) skipped) (value b s w) (value b (s + w) below) w below v (value-lt b s w) (value-lt b (s + w) below)
      ∙ sym (parts-of new ∙ rw (before, inside, after))
    where
      new : ℕ → ℕ
      new = new_bit b s w v

      before : num new (8 * f) skipped ≡ value b (8 * f) skipped
      before = num-ext new (bit b) (8 * f) (8 * f) skipped (λ j h. new-before b s w v (8 * f + j) (omega arith))

      inside : num new s w ≡ v
      inside = num-digits new s w v (new_in b s w v) ∙ mod-eq_of_lt small

      after : num new (s + w) below ≡ value b (s + w) below
      after = num-ext new (bit b) (s + w) (s + w) below (λ j h. new-after b s w v (s + w + j) (omega arith))

-- a wider run, written with the bits that it then has, is the write
pub put-wider : (b : List ℕ) (s w v t x : ℕ) → t ≤ s → s + w ≤ t + x → put b t x (num (new_bit b s w v) t x) ≡ put b s w v
put-wider b s w v t x l m =
    put-ext b b t x all s w v refl (λ k h. by-run t x k
    (λ i. new-before b t x all k i ∙ sym (new-before b s w v k (omega arith)))
    (λ j i e. rw (← e) (new_in b t x all j i ∙ num-at (new_bit b s w v) (new-lt b s w v) t x j i))
    (λ i. new-after b t x all k i ∙ sym (new-after b s w v k (omega arith))))
  where
    all : ℕ
    all = num (new_bit b s w v) t x

-- so the first n bytes of the window, which the run lies in, stored, write it
pub window-stored : (b : List ℕ) (s w f v n : ℕ) → 8 * f ≤ s → s + w ≤ 8 * f + 8 * n → n ≤ 8 → v < 2 ^ w
    → put b (8 * f) (8 * n) (pasted (value b (8 * f) 64) w (64 - (s - 8 * f + w)) v / 2 ^ (64 - 8 * n)) ≡ put b s w v
window-stored b s w f v n from all most small =
    let len : 64 ≡ 8 * n + (64 - 8 * n) = omega arith in
    let first : pasted (value b (8 * f) 64) w (64 - (s - 8 * f + w)) v / 2 ^ (64 - 8 * n) ≡ num (new_bit b s w v) (8 * f) (8 * n) = (
    ap (λ (x : ℕ). x / 2 ^ (64 - 8 * n)) (window-pasted b s w f from (omega arith) v small ∙ ap (num (new_bit b s w v) (8 * f)) len)
    ∙ num-first (new_bit b s w v) (new-lt b s w v) (8 * f) (8 * n) (64 - 8 * n)
    ) in
    ap (put b (8 * f) (8 * n)) first ∙ put-wider b s w v (8 * f) (8 * n) from all

-- the two as the program has them: f the first byte, k the bits from there to the run, x the number of the 8 bytes from there on, n the bytes stored
module _ (b : List ℕ) (bytes : AreBytes b) (s w f : ℕ) (from : 8 * f ≤ s) {k x : ℕ} (k-is : k ≡ s - 8 * f) (x-is : x ≡ be b f 8) where
  window : x ≡ value b (8 * f) 64
  window = x-is ∙ sym (value-be b bytes f 8)

  pub window-read : {r : ℕ} → s + w ≤ 8 * f + 64 → r ≡ x / 2 ^ (64 - (k + w)) % 2 ^ w → r ≡ value b s w
  window-read narrow e = e ∙ rw (window, k-is) (window-cut b s w f from narrow)

  pub window-written : (v : ℕ) → v < 2 ^ w → {n y : ℕ} {c : List ℕ} → s + w ≤ 8 * f + 8 * n → n ≤ 8 → y ≡ pasted x w (64 - (k + w)) v → c ≡ put b (8 * f) (8 * n) (y / 2 ^ (64 - 8 * n)) → c ≡ put b s w v
  window-written v small {n} all most y-is e = e ∙ rw (y-is, window, k-is) (window-stored b s w f v n from all most small)

-- ---- bytes stored in one piece

-- the n bytes l, stored from byte f on
module _ (b l : List ℕ) (f n : ℕ) (bytes : AreBytes b) (small : AreBytes l) (count : length l ≡ n) (within : f + n ≤ length b) where
  c : List ℕ
  c = put_mid f n b l

  same_length : length c ≡ length b
  unfolding c
  same_length = simp (length-append, length-take, length-drop) (omega arith)

  -- they are there
  part : take n (drop f c) ≡ l
  unfolding c
  part =
      let len : f + n - f ≡ n = omega arith in
      ap (λ (m : ℕ). take m (drop f (put_mid f n b l))) (sym len) ∙ between-put_mid f n b l (f + n) (omega arith) (omega arith)

  inside : (i : ℕ) → i < n → byte c (f + i) ≡ byte l i
  inside i h = sym (get_or-take n (drop f c) i 0 h ∙ get_or-drop f c i 0) ∙ ap (λ (s : List ℕ). byte s i) part

  -- and the others are as they were
  before : (i : ℕ) → i < f → byte c i ≡ byte b i
  unfolding c
  before i h = sym (get_or-take f (put_mid f n b l) i 0 h) ∙ ap (λ (s : List ℕ). byte s i) (take-put_mid_below f n b l f (omega arith) (omega arith)) ∙ get_or-take f b i 0 h

  after : (i : ℕ) → f + n ≤ i → byte c i ≡ byte b i
  unfolding c
  after i h =
      let at : i + 0 ≡ i = omega arith in
      ap (byte (put_mid f n b l)) (sym at) ∙ sym (get_or-drop i (put_mid f n b l) 0 0) ∙ ap (λ (s : List ℕ). byte s 0) (drop-put_mid f n b l i h (omega arith) count) ∙ get_or-drop i b 0 0 ∙ ap (byte b) at

  -- so their run is written
  written : put_mid f n b l ≡ put b (8 * f) (8 * n) (spelled l)
  unfolding c
  written = wrote-put (omega arith) (rw (← count) (value-lt l 0 (8 * length l))) (record {
    bytes = λ i. by-run f n i (λ h. rw (before i h) (bytes i)) (λ j h e. rw (← e, inside j h) (small j)) (λ h. rw (after i h) (bytes i));
    same_length = same_length;
    before = λ k h. bit-same c b k (before (k / 8) (omega arith));
    holds = sym (part-spelled c f n (omega (arith, same_length))) ∙ ap spelled part;
    after = λ k h. bit-same c b k (after (k / 8) (omega arith));
  })

  -- as the program has it
  pub stored : {k v : ℕ} {ys : List ℕ} → k ≡ n → ys ≡ l → spelled l ≡ v → put_mid f k b ys ≡ put b (8 * f) (8 * n) v
  stored p q r = rw (p, q, ← r) written

-- the bytes of a number of 64 bits, the highest first, spell it; and the first n of them its upper bits
pub bytes_of : (n x : ℕ) → AreBytes (bytes_high_first n x)
bytes_of zero x i = lit< tt
bytes_of (suc n) x zero = last n
  where
    last : (k : ℕ) → byte_at k x < 256
    last zero = mod-lt x (lit< tt)
    last (suc k) = mod-lt (x / 256 ^ suc k) (lit< tt)
bytes_of (suc n) x (suc i) = bytes_of n x i

pub first-bytes : (x n : ℕ) → x < 2 ^ 64 → n ≤ 8 → spelled (take n (to_be_bytes w64 x)) ≡ x / 2 ^ (64 - 8 * n)
first-bytes x n small most =
    let all = to_be_bytes w64 x in
    let len : 64 ≡ 8 * n + (64 - 8 * n) = omega arith in
    let whole : value all 0 64 ≡ x = value-be all (bytes_of 8 x) 0 8 ∙ sym (be_eight all) ∙ from_be_bytes-to_be_bytes_8 x small in
    part-spelled all 0 n (omega arith) ∙ sym (num-first (bit all) (bit-lt all) 0 (8 * n) (64 - 8 * n)) ∙ ap (λ (m : ℕ). value all 0 m / 2 ^ (64 - 8 * n)) (sym len)
    ∙ ap (λ (v : ℕ). v / 2 ^ (64 - 8 * n)) whole

-- and zeros spell 0
pub spelled-zeros : (n : ℕ) → spelled (replicate n 0) ≡ 0
unfolding bit
spelled-zeros n = num-digits (bit (replicate n 0)) 0 (8 * length (replicate n 0)) 0 (λ j h. rw (zeros n ((0 + j) / 8)) (omega arith)) ∙ zero-mod (2 ^ (8 * length (replicate n 0)))

-- ---- the answers, by what they are

-- what is true of each of the four, where it is that, is true of what the run is
pub by-fit : (n h s w : ℕ) (P : RunCheck → Type 0)
    → (8 < touched s w → P (Err RunFault.TooWide)) → (touched s w ≤ 8 → 8 * h < s + w → P (Err RunFault.Outside))
    → (touched s w ≤ 8 → s + w ≤ 8 * h → n < h → P (Err RunFault.Short)) → (touched s w ≤ 8 → s + w ≤ 8 * h → h ≤ n → P (Ok tt)) → P (fit_of n h s w)
unfolding fit_of
by-fit n h s w P wide outside short fits = go (dec_lt 8 (touched s w)) (dec_lt (8 * h) (s + w)) (dec_lt n h)
  where
    go : Dec (8 < touched s w) → Dec (8 * h < s + w) → Dec (n < h) → P (fit_of n h s w)
    go (yes l) _ _ = rw (lt-ltb 8 (touched s w) l) (wide l)
    go (no l) (yes m) _ = rw (le-ltb 8 (touched s w) (omega arith), lt-ltb (8 * h) (s + w) m) (outside (omega arith) m)
    go (no l) (no m) (yes t) = rw (le-ltb 8 (touched s w) (omega arith), le-ltb (8 * h) (s + w) (omega arith), lt-ltb n h t) (short (omega arith) (omega arith) t)
    go (no l) (no m) (no t) = rw (le-ltb 8 (touched s w) (omega arith), le-ltb (8 * h) (s + w) (omega arith), le-ltb n h (omega arith)) (fits (omega arith) (omega arith) (omega arith))

-- and of each of the three, of whole bytes
pub by_place : (n h f c : ℕ) (P : RunCheck → Type 0) → (h < f + c → P (Err RunFault.Outside)) → (f + c ≤ h → n < h → P (Err RunFault.Short)) → (f + c ≤ h → h ≤ n → P (Ok tt))
    → P (bytes_answer n h f c)
unfolding bytes_answer
by_place n h f c P outside short done = go (dec_lt h (f + c)) (dec_lt n h)
  where
    go : Dec (h < f + c) → Dec (n < h) → P (bytes_answer n h f c)
    go (yes l) _ = rw (lt-ltb h (f + c) l) (outside l)
    go (no l) (yes m) = rw (le-ltb h (f + c) (omega arith), lt-ltb n h m) (short (omega arith) m)
    go (no l) (no m) = rw (le-ltb h (f + c) (omega arith), le-ltb n h (omega arith)) (done (omega arith) (omega arith))
