-- Bytes are parts one after the other exactly where each part reads so at the sum of the widths before it: `reads-is`. Assumes nothing.
use mathlib.Core.Path.{◌≡◌, refl, sym, ap, ◌∙◌}
use mathlib.Core.Bool.{Bool, true, ◌&&◌, and_assoc}
use mathlib.Core.List.{List, [], ◌∷◌, ◌++◌}
use mathlib.Core.Logic.{◌↔◌}
use Prim.Native.Nat.{ℕ, zero, suc, ◌+◌, ◌-◌, ◌*◌, ◌^◌, ◌/◌, ◌%◌, ◌≤◌, ◌<◌}
use native.Mathlib.Nat.{add-zero, zero-add, add_assoc, pow-suc, pow-zero}
use native.Mathlib.Numerals.{add-one}
use native.Mathlib.Omega.{arith}
use lib.Dec.{lit<}
use lib.ListN.{length, replicate, take, drop, length-append, length-replicate, get_or-append, take-append-drop}
use lib.Seq.{take_at, drop_at, take-take, drop-append-le, get_or_at, length-take-le, length-slice, slice, slice-cons, slice_empty, get_or-drop, get_or-take}
use borrow.Author.Tests.{eqb-true}
use Rattle.octets.specs.Octets.{AreBytes, byte, be, all, all_in, is_zero}
use Rattle.octets.proofs.Octets.{zeros}
use Rattle.stated.specs.Parts.{Part, one_byte, big_endian, padded, number_bytes, part_bytes, written}
use Rattle.stated.proofs.Reading.{part_width, parts_width, Fits, ReadsAs, Fit, Reads}
use Rattle.answer.proofs.Tests.{both_hold}

-- ---- numbers

pub number-length : (w n : ℕ) → length (number_bytes w n) ≡ w
unfolding number_bytes
number-length zero n = refl
number-length (suc w) n = length-append (number_bytes w (n / 256)) _ ∙ omega (arith, number-length w (n / 256))

-- the same bytes, wherever they stand, are the same number
be-same : (s t : List ℕ) (a c n : ℕ) → ((i : ℕ) → i < n → byte s (a + i) ≡ byte t (c + i)) → be s a n ≡ be t c n
unfolding be
be-same s t a c zero h = refl
be-same s t a c (suc n) h = rw (be-same s t a c n (λ i l. h i (omega arith)), h n (omega arith))

number-value : (w n : ℕ) → n < 256 ^ w → be (number_bytes w n) 0 w ≡ n
unfolding number_bytes be
number-value zero n h = omega (arith, rw pow-zero at h)
number-value (suc w) n h =
    let above = number_bytes w (n / 256) in
    let small : n / 256 < 256 ^ w = omega (arith, rw pow-suc at h) in
    let front : be (above ++ (n % 256 ∷ [])) 0 w ≡ be above 0 w =
    be-same (above ++ (n % 256 ∷ [])) above 0 0 w (λ i l. get_or-append above _ 0 (0 + i) (omega (arith, number-length w (n / 256)))) in
    let last : byte (above ++ (n % 256 ∷ [])) (0 + w) ≡ n % 256 = get_or_at above (n % 256) [] 0 (0 + w) (number-length w (n / 256) ∙ sym (zero-add w)) in
    rw (front, last) (omega (arith, number-value w (n / 256) small))

-- ---- zeros

zeros-only : (s : List ℕ) → all is_zero s ≡ true → s ≡ replicate (length s) 0
unfolding all is_zero
zeros-only [] h = refl
zeros-only (x ∷ s) h =
    let two = both_hold _ (all is_zero s) h in
    let first = eqb-true x 0 two.0 in
    let rest = zeros-only s two.1 in
    cc

zeros-all : (n : ℕ) → all is_zero (replicate n 0) ≡ true
unfolding all is_zero
zeros-all zero = refl
zeros-all (suc n) = zeros-all n

-- ---- two lists, part by part

all_append : (test : ℕ → Bool) (s t : List ℕ) → all test (s ++ t) ≡ (all test s && all test t)
unfolding all
all_append test [] t = refl
all_append test (x ∷ s) t = rw (all_append test s t) (sym (and_assoc (test x) (all test s) (all test t)))

pub halves : (p q r s : List ℕ) → length p ≡ length r → p ++ q ≡ r ++ s → (p ≡ r) × (q ≡ s)
halves p q r s l e = (
  sym (take_at p q (length r) l) ∙ ap (take (length r)) e ∙ take_at r s (length r) refl,
  sym (drop_at p q (length r) l) ∙ ap (drop (length r)) e ∙ drop_at r s (length r) refl,
)

module _ (b : List ℕ) where
  pub slice-join : (a m e : ℕ) → a ≤ m → m ≤ e → e ≤ length b → slice a e b ≡ slice a m b ++ slice m e b
  slice-join a m e h k l =
      ap (drop a) (sym (take-append-drop m (take e b)) ∙ rw (take-take m e b k))
      ∙ drop-append-le a (take m b) (slice m e b) (omega (arith, length-take-le m b (omega arith)))

  -- a test over a span, in two
  pub all_join : (test : ℕ → Bool) (a m e : ℕ) → a ≤ m → m ≤ e → e ≤ length b → all_in test b a e ≡ (all_in test b a m && all_in test b m e)
  unfolding all_in
  all_join test a m e h k l = ap (all test) (slice-join a m e h k l) ∙ all_append test (slice a m b) (slice m e b)

  -- ---- one part

  slice-one : (a : ℕ) → a < length b → slice a (a + 1) b ≡ byte b a ∷ []
  slice-one a h = slice-cons a (a + 1) b 0 (omega arith) (omega arith) ∙ rw (add-one a, slice_empty (suc a) b)

  slice-number : AreBytes b → (a w : ℕ) → a + w ≤ length b → slice a (a + w) b ≡ number_bytes w (be b a w)
  unfolding number_bytes be
  slice-number h a zero l = rw add-zero (slice_empty a b)
  slice-number h a (suc w) l =
      let next : a + suc w ≡ a + w + 1 = omega arith in
      let high : (be b a w * 256 + byte b (a + w)) / 256 ≡ be b a w = omega (arith, h (a + w)) in
      let low : (be b a w * 256 + byte b (a + w)) % 256 ≡ byte b (a + w) = omega (arith, h (a + w)) in
      rw (high, low, next)
      (slice-join a (a + w) (a + w + 1) (omega arith) (omega arith) (omega arith) ∙ rw (slice-number h a w (omega arith), slice-one (a + w) (omega arith)))

  -- nothing but zeros
  pub nothing_read : (a w : ℕ) → all_in is_zero b a (a + w) ≡ true → ReadsAs b a (padded w [])
  nothing_read a w z = rw add-zero (slice_empty a b, z)

  slice-value : (a w : ℕ) → be (slice a (a + w) b) 0 w ≡ be b a w
  slice-value a w =
      be-same (slice a (a + w) b) b 0 a w (λ i l. get_or-drop a (take (a + w) b) (0 + i) 0 ∙ rw (zero-add i) (get_or-take (a + w) b (a + i) 0 (omega arith)))

-- what a part writes is as wide as it says
pub part_length : (p : Part) → Fits p → length (part_bytes p) ≡ part_width p
part_length (one_byte n) h = refl
part_length (big_endian w n) h = number-length w n
part_length (padded w l) h = length-append l _ ∙ omega (arith, length-replicate {A = ℕ} (w - length l) 0)

pub written-length : (ps : List Part) → Fit ps → length (written ps) ≡ parts_width ps
written-length [] h = refl
written-length (p ∷ ps) h = length-append (part_bytes p) (written ps) ∙ omega (arith, part_length p h.0, written-length ps h.1)

-- and it is bytes
pub bytes-append : (s t : List ℕ) → AreBytes s → AreBytes t → AreBytes (s ++ t)
bytes-append [] t h k i = k i
bytes-append (x ∷ s) t h k zero = h zero
bytes-append (x ∷ s) t h k (suc i) = bytes-append s t (λ j. h (suc j)) k i

pub bytes-none : AreBytes []
bytes-none zero = lit< tt
bytes-none (suc i) = lit< tt

-- nothing but zeros has room anywhere
pub nothing-fits : (w : ℕ) → Fits (padded w [])
nothing-fits w = (omega arith, bytes-none)

bytes-single : (n : ℕ) → n < 256 → AreBytes (n ∷ [])
bytes-single n h zero = h
bytes-single n h (suc i) = bytes-none i

pub number-bytes : (w n : ℕ) → AreBytes (number_bytes w n)
unfolding number_bytes
number-bytes zero n = bytes-none
number-bytes (suc w) n = bytes-append (number_bytes w (n / 256)) _ (number-bytes w (n / 256)) (bytes-single (n % 256) (omega arith))

pub bytes-zeros : (n : ℕ) → AreBytes (replicate n 0)
bytes-zeros n i = rw (zeros n i) (lit< tt)

bytes-part : (p : Part) → Fits p → AreBytes (part_bytes p)
bytes-part (one_byte n) h = bytes-single n h
bytes-part (big_endian w n) h = number-bytes w n
bytes-part (padded w l) h = bytes-append l _ h.1 (bytes-zeros (w - length l))

pub written-bytes : (ps : List Part) → Fit ps → AreBytes (written ps)
written-bytes [] h = bytes-none
written-bytes (p ∷ ps) h = bytes-append (part_bytes p) (written ps) (bytes-part p h.0) (written-bytes ps h.1)

-- ---- parts of a list of bytes

module _ (b : List ℕ) (bytes : AreBytes b) where
  part-is : (p : Part) (at : ℕ) → Fits p → at + part_width p ≤ length b → (slice at (at + part_width p) b ≡ part_bytes p) ↔ ReadsAs b at p
  unfolding all_in
  part-is (one_byte n) at h l = (λ e. let s = slice-one b at (omega arith) in cc, λ e. slice-one b at (omega arith) ∙ rw e)
  part-is (big_endian w n) at h l =
      (λ e. sym (slice-value b at w) ∙ ap (λ (s : List ℕ). be s 0 w) e ∙ number-value w n h, λ e. slice-number b bytes at w l ∙ rw e)
  part-is (padded w l) at h k = (apart, λ two. joined ∙ rw (two.0, rest two.1))
    where
      joined : slice at (at + w) b ≡ slice at (at + length l) b ++ slice (at + length l) (at + w) b
      joined = slice-join b at (at + length l) (at + w) (omega arith) (omega arith) k

      apart : slice at (at + w) b ≡ l ++ replicate (w - length l) 0 → ReadsAs b at (padded w l)
      apart e =
          let two = halves _ _ l _ (length-slice at (at + length l) b (omega arith) ∙ omega arith) (sym joined ∙ e) in
          (two.0, rw two.1 (zeros-all (w - length l)))

      rest : all_in is_zero b (at + length l) (at + w) ≡ true → slice (at + length l) (at + w) b ≡ replicate (w - length l) 0
      rest z =
          let size : length (slice (at + length l) (at + w) b) ≡ w - length l = length-slice (at + length l) (at + w) b k ∙ omega arith in
          zeros-only _ z ∙ ap (λ (n : ℕ). replicate n 0) size

  more-is : (p : Part) (ps : List Part) (at : ℕ) → Fits p → at + parts_width (p ∷ ps) ≤ length b
      → (slice (at + part_width p) (at + part_width p + parts_width ps) b ≡ written ps) ↔ Reads b (at + part_width p) ps
      → (slice at (at + parts_width (p ∷ ps)) b ≡ written (p ∷ ps)) ↔ Reads b at (p ∷ ps)
  more-is p ps at h l tail = (apart, λ r. joined ∙ rw (head.1 r.0, tail.1 r.1))
    where
      head : (slice at (at + part_width p) b ≡ part_bytes p) ↔ ReadsAs b at p
      head = part-is p at h (omega arith)

      joined : slice at (at + (part_width p + parts_width ps)) b ≡ slice at (at + part_width p) b ++ slice (at + part_width p) (at + part_width p + parts_width ps) b
      joined =
          rw (← (add_assoc at (part_width p) (parts_width ps))) (slice-join b at (at + part_width p) (at + part_width p + parts_width ps) (omega arith) (omega arith) (omega arith))

      apart : slice at (at + (part_width p + parts_width ps)) b ≡ part_bytes p ++ written ps → Reads b at (p ∷ ps)
      apart e =
          let two = halves _ _ (part_bytes p) (written ps) (length-slice at (at + part_width p) b (omega arith) ∙ omega (arith, part_length p h)) (sym joined ∙ e) in
          (head.0 two.0, tail.0 two.1)

  pub reads-is : (ps : List Part) (at : ℕ) → Fit ps → at + parts_width ps ≤ length b → (slice at (at + parts_width ps) b ≡ written ps) ↔ Reads b at ps
  reads-is [] at h l = (λ e. tt, λ r. rw add-zero (slice_empty at b))
  reads-is (p ∷ ps) at h l = more-is p ps at h.0 l (reads-is ps (at + part_width p) h.1 (omega arith))
