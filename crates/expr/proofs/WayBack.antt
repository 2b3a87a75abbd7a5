-- The way back is exact: each step is undone by its own, and two steps by theirs in the other order. Beside it, that there is one answer. Assumes nothing.
use mathlib.Core.Path.{◌≡◌, refl, ap, sym, ◌∙◌}
use mathlib.Core.Bool.{Bool, true, not}
use mathlib.Core.Logic.{◌↔◌}
use Rattle.std.specs.Prelude.{Option, None, Some}
use Rattle.std.proofs.lemmas.Option.{same_Some}
use Prim.Native.Nat.{ℕ, ◌+◌, ◌-◌, ◌*◌, ◌/◌, ◌%◌, ◌^◌, ◌≤◌, ◌<◌}
use native.Mathlib.Nat.{mul-mod_left, mul-div_cancel, mul-le-mul_left, div-add-mod'}
use native.Mathlib.Omega.{arith}
use lib.Dec.{eqb}
use borrow.Author.Tests.{lt-ltb, le-ltb, eq-eqb, ne_eqb, ltb-true, ltb-false, eqb-true, eqb-false, not-true}
use Rattle.answer.proofs.Walk.{if-is, else_is}
use Rattle.number.specs.declared.Bytes.{Bytes}
use Rattle.expr.specs.declared.UsableAlgExpr.{UsableAlgExpr}
use Rattle.expr.specs.Forms.{in64_bits, ◌then◌, plus, times, Back, less, over, back, length_says}

-- ---- steps undone

-- a number that fits, and nothing else, is what a step gives
pub fits-is : (n y : ℕ) → (in64_bits n ≡ Some y) ↔ ((n ≡ y) × (y < 2 ^ 64))
unfolding in64_bits
fits-is n y = simp if-is (λ p. let same : n ≡ y = cc in (same, omega (arith, ltb-true)), λ p. (lt-ltb n (2 ^ 64) (omega arith), ap Some p.0))

less-is : (a x y : ℕ) → (less a y ≡ Some x) ↔ (x + a ≡ y)
unfolding less
less-is a x y = simp else_is (λ p. let same : y - a ≡ x = cc in omega (arith, ltb-false), λ e. (le-ltb y a (omega arith), ap Some (omega arith)))

over-is : (m x y : ℕ) → (over m y ≡ Some x) ↔ ((m ≡ 0 → ⊥) × (x * m ≡ y))
unfolding over
over-is m x y = simp (else_is, if-is) (
  λ p.
      let same : y / m ≡ x = cc in
      (eqb-false m 0 p.0, ap (λ (k : ℕ). k * m) (sym same) ∙ omega (arith, div-add-mod' y m, eqb-true (y % m) 0 p.1.0)),
  λ p.
      let d : y / m ≡ x = ap (λ (k : ℕ). k / m) (sym p.1) ∙ mul-div_cancel x (omega (arith, p.0)) in
      (ne_eqb m 0 p.0, (eq-eqb (y % m) 0 (ap (λ (k : ℕ). k % m) (sym p.1) ∙ mul-mod_left x m), ap Some d)),
)

-- two steps give y exactly when the first gives some s, from which the second gives y
pub then_is : (o : Option ℕ) (step : ℕ → Option ℕ) (y : ℕ) → ((o then step) ≡ Some y) ↔ ((s : ℕ) × (o ≡ Some s) × (step s ≡ Some y))
then_is (Some s) step y = (λ e. (s, refl, e), λ t. let same : s ≡ t.0 = cc in ap step same ∙ t.2)
then_is None step y = (λ e. absurd (let z : ◌≡◌ {A = ℕ} 0 1 = cc in omega arith), λ t. absurd (let z : ◌≡◌ {A = ℕ} 0 1 = cc in omega arith))

-- `undo` is the way back of a step: from y it gives x exactly when the step gives y from x, and where the test holds; neither leaves the 64 bits
record Undoes (step undo : ℕ → Option ℕ) (test : Bool) : Type 0 where
  exact : (x y : ℕ) → y < 2 ^ 64 → (undo y ≡ Some x) ↔ ((step x ≡ Some y) × (test ≡ true))
  small : (x y : ℕ) → step x ≡ Some y → y < 2 ^ 64
  shrinks : (x y : ℕ) → undo y ≡ Some x → x ≤ y

less-undoes : (a : ℕ) → Undoes (plus a) (less a) true
less-undoes a =
    record {
      exact = λ x y h. simp (less-is, fits-is) (λ e. ((e, h), refl), λ p. p.0.0);
      small = λ x y e. ((fits-is (x + a) y).0 e).1;
      shrinks = λ x y e. omega (arith, (less-is a x y).0 e);
    }

over-undoes : (m : ℕ) → Undoes (times m) (over m) (not (eqb m 0))
over-undoes m =
    record {
      exact = λ x y h. simp (over-is, fits-is) (λ g. ((g.1, h), rw (ne_eqb m 0 g.0)), λ p. (eqb-false m 0 (not-true _ p.1), p.0.0));
      small = λ x y e. ((fits-is (x * m) y).0 e).1;
      shrinks = λ x y e. let g = (over-is m x y).0 e in let most : x * 1 ≤ x * m = mul-le-mul_left x (omega (arith, g.0)) in omega (arith, g.1);
    }

-- of two steps: the second undone, then the first
both-undone : {f g f' g' : ℕ → Option ℕ} {t t' : Bool} → Undoes f f' t → Undoes g g' t' → (x y : ℕ) → y < 2 ^ 64
    → ((g' y then f') ≡ Some x) ↔ (((f x then g) ≡ Some y) × ((t ≡ true) × (t' ≡ true)))
both-undone {f} {g} {f'} {g'} one two x y h = (
  λ e.
      let s = (then_is (g' y) f' x).0 e in
      let second = (two.exact s.0 y h).0 s.1 in
      let first = (one.exact x s.0 (omega (arith, two.shrinks s.0 y s.1))).0 s.2 in
      ((then_is (f x) g y).1 (s.0, first.0, second.0), (first.1, second.1)),
  λ p.
      let s = (then_is (f x) g y).0 p.0 in
      let first = (one.exact x s.0 (one.small x s.0 s.1)).1 (s.1, p.1.0) in
      let second = (two.exact s.0 y h).1 (s.2, p.1.1) in
      (then_is (g' y) f' x).1 (s.0, second, first),
)

-- ---- the whole way back

pub back_is : (e : UsableAlgExpr) (y : ℕ) → y < 2 ^ 64 → Back e y (back e y)
back_is UsableAlgExpr.IdentOnly y h x = (λ e. (cc, refl), λ p. cc)
back_is (UsableAlgExpr.SimpleAdd a) y h x = (less-undoes a).exact x y h
back_is (UsableAlgExpr.SimpleMult m) y h x = (over-undoes m).exact x y h
back_is (UsableAlgExpr.AddMult a m) y h x =
    let both = both-undone (less-undoes a) (over-undoes m) x y h in
    (λ e. ((both.0 e).0, (both.0 e).1.1), λ p. both.1 (p.0, (refl, p.1)))
back_is (UsableAlgExpr.MultAdd m a) y h x =
    let both = both-undone (over-undoes m) (less-undoes a) x y h in
    (λ e. ((both.0 e).0, (both.0 e).1.0), λ p. both.1 (p.0, (p.1, refl)))

-- the statement allows one answer only
pub back-only : (e : UsableAlgExpr) (y : ℕ) (r q : Option ℕ) → Back e y r → Back e y q → r ≡ q
back-only e y (Some x) q h k = sym ((k x).1 ((h x).0 refl))
back-only e y None (Some x) h k = (h x).1 ((k x).0 refl)
back-only e y None None h k = refl

-- ---- one answer: what the program's answer says tells it apart

pub length-one : (a b : Option Bytes) → length_says a ≡ length_says b → a ≡ b
length-one (Some m) (Some n) e = ap (λ (k : ℕ). Some (record { 0 = k })) (same_Some m.0 n.0 e)
length-one (Some m) None e = cc
length-one None (Some n) e = cc
length-one None None e = refl
