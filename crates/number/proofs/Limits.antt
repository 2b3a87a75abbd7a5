-- Laws of the counts and of the largest value: each case of a definition, and what the limits and the largest value amount to. Assumes nothing.
use mathlib.Core.Path.{◌≡◌, refl, sym, ap, ◌∙◌}
use mathlib.Core.Bool.{true, or-true}
use Rattle.std.specs.Prelude.{Option, None, Some}
use Prim.Native.Nat.{ℕ, ◌+◌, ◌-◌, ◌*◌, ◌/◌, ◌^◌, ◌≤◌, ◌<◌}
use native.Mathlib.Nat.{mod-lt, lt_of_lt_of_le, div-eq_of_lt}
use native.Mathlib.Omega.{arith}
use lib.Dec.{ltb, eqb}
use lib.Pow.{ones_split, ones_lt, high, pow_pos, pow_mono, split}
use borrow.Author.Tests.{ltb-true, eqb-true, lt-ltb, le-ltb, eq-eqb, ne_eqb}
use Rattle.answer.specs.declared.Group.{Group}
use Rattle.answer.specs.Paper.{gives, refused}
use Rattle.answer.proofs.Tests.{same_test}
use Rattle.number.specs.declared.Bits.{Bits}
use Rattle.number.specs.declared.Bytes.{Bytes}
use Rattle.number.specs.Numbers.{max_bits, max_bytes, in_bits, max_value, byte_val, in_bits_says}

-- the limits as the constants have them; that in bytes is the largest number of 22 bits
limit-in-bits : max_bits ≡ 33554424
limit-in-bits = omega arith

limit-in-bytes : max_bytes ≡ 2 ^ 22 - 1
limit-in-bytes = omega arith

-- ---- a byte count in bits

pub in-bits : (n : ℕ) → n < 2 ^ 61 → in_bits n ≡ Some (8 * n)
unfolding in_bits
in-bits n h = simp (lt-ltb (8 * n) (2 ^ 64) (omega arith))

pub not-in-bits : (n : ℕ) → 2 ^ 61 ≤ n → in_bits n ≡ None
unfolding in_bits
not-in-bits n h = simp (le-ltb (8 * n) (2 ^ 64) (omega arith))

-- ---- the largest value of a width

pub no-max-zero : (w : ℕ) → w ≡ 0 → max_value w ≡ None
unfolding max_value
no-max-zero w h = simp (eq-eqb w 0 h)

pub no-max-wide : (w : ℕ) → 64 < w → max_value w ≡ None
unfolding max_value
no-max-wide w h = simp (lt-ltb 64 w h, or-true)

pub max-is : (w : ℕ) → (w ≡ 0 → ⊥) → w ≤ 64 → max_value w ≡ Some (2 ^ w - 1)
unfolding max_value
max-is w n h = simp (ne_eqb w 0 n, le-ltb 64 w h)

-- 64 set bits of which w are left
pub ones-shifted : (w : ℕ) → w ≤ 64 → (2 ^ 64 - 1) / 2 ^ (64 - w) ≡ 2 ^ w - 1
ones-shifted w h =
    let all : w + (64 - w) ≡ 64 = omega arith in
    ap (λ (n : ℕ). (2 ^ n - 1) / 2 ^ (64 - w)) (sym all) ∙ rw (ones_split w (64 - w)) (high (2 ^ w - 1) (64 - w) (ones_lt (64 - w)))

-- a number is within the width exactly where it is at most the largest value
pub within-max : (w v : ℕ) → (v < 2 ^ w → v ≤ 2 ^ w - 1) × (v ≤ 2 ^ w - 1 → v < 2 ^ w)
within-max w v = (λ h. omega arith, λ h. omega (arith, pow_pos w))

-- ---- whether a number has at most w bits: nothing is left of it once they are shifted out

pub bits-within : (x w : ℕ) → eqb (x / 2 ^ w) 0 ≡ ltb x (2 ^ w)
bits-within x w =
    same_test (eqb (x / 2 ^ w) 0) (ltb x (2 ^ w))
    (λ e. lt-ltb x (2 ^ w) (omega (arith, split x w, ap (λ (q : ℕ). q * 2 ^ w) (eqb-true (x / 2 ^ w) 0 e), mod-lt x (pow_pos w))))
    (λ e. eq-eqb (x / 2 ^ w) 0 (div-eq_of_lt (ltb-true x (2 ^ w) e)))

-- from 64 bits on that holds of any number of 64 bits
pub wide-within : (x w : ℕ) → x < 2 ^ 64 → 64 ≤ w → true ≡ ltb x (2 ^ w)
wide-within x w h l = sym (lt-ltb x (2 ^ w) (lt_of_lt_of_le h (pow_mono l)))

-- ---- a number as a byte

pub byte-is : (n : ℕ) → n ≤ 255 → byte_val n ≡ gives n
unfolding byte_val
byte-is n h = simp (le-ltb 255 n h)

pub no_byte : (n : ℕ) → 255 < n → byte_val n ≡ refused Group.Number 1 0
unfolding byte_val
no_byte n h = simp (lt-ltb 255 n h)

-- ---- one answer: what the program's answers say tells them apart

pub bits-one : (a b : Bits) → a.0 ≡ b.0 → a ≡ b
bits-one a b e = ap (λ (n : ℕ). record { 0 = n }) e

pub bytes_one : (a b : Bytes) → a.0 ≡ b.0 → a ≡ b
bytes_one a b e = ap (λ (n : ℕ). record { 0 = n }) e

pub count-one : (a b : Option Bits) → in_bits_says a ≡ in_bits_says b → a ≡ b
count-one (Some a) (Some b) e = ap (λ (x : Bits). Some x) (bits-one a b cc)
count-one (Some a) None e = cc
count-one None (Some b) e = cc
count-one None None e = refl
