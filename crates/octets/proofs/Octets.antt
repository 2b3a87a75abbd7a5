-- Laws of big-endian numbers, of tests over a range and of two spans, with offset and count left open: for this crate's proofs and those of the
-- crates above. Assumes nothing.
use mathlib.Core.Path.{◌≡◌, refl, sym, ◌∙◌}
use mathlib.Core.Bool.{Bool, true, false, ◌&&◌, true≢false}
use mathlib.Core.List.{List, [], ◌∷◌}
use mathlib.Core.Logic.{◌↔◌}
use Prim.Native.Nat.{ℕ, zero, suc, ◌+◌, ◌*◌, ◌^◌, ◌≤◌, ◌<◌}
use native.Mathlib.Nat.{zero-add, add-zero, add-suc, add_assoc, pow-suc, pow-zero}
use native.Mathlib.Decide.{dec_lt}
use native.Mathlib.Numerals.{add-one}
use native.Mathlib.Omega.{arith}
use lib.Arith.{digits_lt}
use lib.Dec.{eqb, lit<, leb-zero, leb-suc-zero, eqb-suc-zero}
use lib.ListN.{length, replicate, get_or, take, drop, length-take, drop_of_length-le, get_or-eq_default}
use lib.Pointwise.{pointwise}
use lib.Seq.{drop-cons, get_or-take, get_or-drop, slice, slice-cons}
use Rattle.std.specs.Int.{w16, w32, w64, from_be_bytes}
use borrow.Author.Tests.{eq-eqb, eqb-true}
use Rattle.octets.specs.Octets.{AreBytes, byte, be, all, all_in, between, is_zero, is_name_byte, same}

-- a part of bytes is bytes
pub bytes_take : (n : ℕ) (s : List ℕ) → AreBytes s → AreBytes (take n s)
bytes_take n s h i = go (dec_lt i n)
  where
    go : Dec (i < n) → get_or (take n s) i 0 < 256
    go (yes l) = rw (get_or-take n s i 0 l) (h i)
    go (no l) = rw (get_or-eq_default (take n s) 0 {n = i} (omega (arith, length-take n s))) (lit< tt)

pub bytes_drop : (n : ℕ) (s : List ℕ) → AreBytes s → AreBytes (drop n s)
bytes_drop n s h i = rw (get_or-drop n s i 0) (h (n + i))

pub bytes-slice : (a e : ℕ) (s : List ℕ) → AreBytes s → AreBytes (slice a e s)
bytes-slice a e s h = bytes_drop a (take e s) (bytes_take e s h)

pub zeros : (n at : ℕ) → byte (replicate n 0) at ≡ 0
zeros zero zero = refl
zeros zero (suc at) = refl
zeros (suc n) zero = refl
zeros (suc n) (suc at) = zeros n at

-- the same bytes at every offset
abbrev pub Alike : List ℕ → List ℕ → Type 0
Alike s t = (at : ℕ) → byte s at ≡ byte t at

-- ---- big-endian numbers

-- one byte is the byte
pub be-one : (s : List ℕ) (at : ℕ) → be s at 1 ≡ byte s at
unfolding be
be-one s at = rw add-zero (omega arith)

-- m bytes and then n
pub be-add : (s : List ℕ) (at m n : ℕ) → be s at (m + n) ≡ be s at m * 256 ^ n + be s (at + m) n
unfolding be
be-add s at m zero = rw (add-zero, pow-zero) (omega arith)
be-add s at m (suc n) =
    rw (add-suc, ← (add_assoc at m n), pow-suc) (omega (arith, be-add s at m n))

-- a number of n bytes is below 256 ^ n
pub be-lt : (s : List ℕ) → AreBytes s → (at n : ℕ) → be s at n < 256 ^ n
unfolding be
be-lt s h at zero = rw pow-zero (lit< tt)
be-lt s h at (suc n) = rw pow-suc (digits_lt (be-lt s h at n) (h (at + n)))

-- from an offset on
pub be-drop : (s : List ℕ) (a b n : ℕ) → be (drop a s) b n ≡ be s (a + b) n
unfolding be
be-drop s a b zero = refl
be-drop s a b (suc n) = rw (be-drop s a b n, get_or-drop a s (b + n) 0, add_assoc a b n)

pub be-from : (s : List ℕ) (at n : ℕ) {t : List ℕ} → t ≡ drop at s → be t 0 n ≡ be s at n
be-from s at n e = rw (e, be-drop s at 0 n, add-zero at)

-- of the same bytes
pub be-alike : (s t : List ℕ) → Alike s t → (at n : ℕ) → be s at n ≡ be t at n
unfolding be
be-alike s t h at zero = refl
be-alike s t h at (suc n) = rw (be-alike s t h at n, h (at + n))

-- in the m bytes from an offset on
pub be-part : (s : List ℕ) (at m n : ℕ) → n ≤ m → be (take m (drop at s)) 0 n ≡ be s at n
unfolding be
be-part s at m zero h = refl
be-part s at m (suc n) h = rw (be-part s at m n (omega arith), zero-add, get_or-take m (drop at s) n 0 h, get_or-drop at s n 0)

-- of as many bytes as are there, and of these with zeros after them
pub be-whole : (s : List ℕ) (at n : ℕ) {t x : List ℕ} → t ≡ drop at s → x ≡ take n t → be x 0 n ≡ be s at n
be-whole s at n e h = rw (h, e) (be-part s at n n (omega arith))

pub be-padded : (s x : List ℕ) (at n : ℕ) {t : List ℕ} → t ≡ drop at s → Alike x t → be x 0 n ≡ be s at n
be-padded s x at n e h = be-alike _ _ h 0 n ∙ be-from s at n e

-- the library's numbers of 2, 4 and 8 bytes
pub be_two : (s : List ℕ) → from_be_bytes w16 s ≡ be s 0 2
unfolding be
be_two s = omega arith

pub be_four : (s : List ℕ) → from_be_bytes w32 s ≡ be s 0 4
unfolding be
be_four s = omega arith

pub be_eight : (s : List ℕ) → from_be_bytes w64 s ≡ be s 0 8
unfolding be
be_eight s = omega arith

-- ---- a test over a range

-- a walk over the bytes from i on: at the end, and one byte further
module _ (test : ℕ → Bool) (s : List ℕ) (i : ℕ) where
  pub rest_end : length s ≤ i → all test (drop i s) ≡ true
  unfolding all
  rest_end h = rw (drop_of_length-le s {i = i} h)

  pub rest_more : i < length s → all test (drop i s) ≡ (test (byte s i) && all test (drop (i + 1) s))
  unfolding all
  rest_more h = rw (drop-cons s i 0 h, add-one i)

-- the same of the bytes from i up to e
pub all_more : (test : ℕ → Bool) (s : List ℕ) (i e : ℕ) → i < e → e ≤ length s → all_in test s i e ≡ (test (byte s i) && all_in test s (i + 1) e)
unfolding all_in all
all_more test s i e h l = rw (slice-cons i e s 0 h l, add-one i)

-- tests that agree on every byte
all-cong : (p q : ℕ → Bool) → ((x : ℕ) → p x ≡ q x) → (s : List ℕ) → all p s ≡ all q s
unfolding all
all-cong p q e [] = refl
all-cong p q e (x ∷ s) = rw (e x, all-cong p q e s)

pub all_alike : (p q : ℕ → Bool) → ((x : ℕ) → p x ≡ q x) → (s : List ℕ) (a e : ℕ) → all_in p s a e ≡ all_in q s a e
unfolding all_in
all_alike p q h s a e = all-cong p q h (slice a e s)

-- between 0 and 0 lies 0 alone
pub only_zero : (x : ℕ) → between 0 0 x ≡ is_zero x
unfolding is_zero
only_zero zero = refl
only_zero (suc x) = rw (leb-zero (suc x), leb-suc-zero x, eqb-suc-zero x)

pub from-33-to-126 : (x : ℕ) → between 33 126 x ≡ is_name_byte x
unfolding is_name_byte
from-33-to-126 x = refl

-- ---- two spans

-- `same` says whether they are equal
pub same_refl : (s : List ℕ) → same s s ≡ true
unfolding same
same_refl [] = refl
same_refl (x ∷ s) = rw (eq-eqb x x refl) (same_refl s)

pub same-equal : (s t : List ℕ) → same s t ≡ true → s ≡ t
unfolding same
same-equal [] [] e = refl
same-equal [] (y ∷ t) e = cc
same-equal (x ∷ s) [] e = cc
same-equal (x ∷ s) (y ∷ t) e = both (eqb x y) refl e (same-equal s t)
  where
    both : (b : Bool) → eqb x y ≡ b → (b && same s t) ≡ true → (same s t ≡ true → s ≡ t) → x ∷ s ≡ y ∷ t
    both true q h tails = let heads = eqb-true x y q in let rest = tails h in cc
    both false q h tails = cc

pub same-is : (s t : List ℕ) → (same s t ≡ true) ↔ (s ≡ t)
same-is s t = (same-equal s t, λ e. rw e (same_refl t))

pub same-is-not : (s t : List ℕ) → (same s t ≡ false) ↔ (s ≡ t → ⊥)
same-is-not s t = (λ e q. true≢false (sym ((same-is s t).1 q) ∙ e), λ n. decided (same s t) refl n)
  where
    decided : (b : Bool) → same s t ≡ b → (s ≡ t → ⊥) → b ≡ false
    decided true e n = absurd (n (same-equal s t e))
    decided false e n = refl

-- the library's `==`, byte by byte
pub same_pointwise : (s t : List ℕ) → pointwise eqb s t ≡ same s t
unfolding same
same_pointwise [] [] = refl
same_pointwise [] (y ∷ t) = refl
same_pointwise (x ∷ s) [] = refl
same_pointwise (x ∷ s) (y ∷ t) = rw (same_pointwise s t)
