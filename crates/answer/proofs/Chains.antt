-- Laws of checks in order: what a chain of checks and a walk over them answer, from what the single checks answer. They say nothing of any one
-- check. Assumes nothing.
use mathlib.Core.Path.{◌≡◌, refl, ap, sym, ◌∙◌}
use mathlib.Core.Bool.{Bool, true, false}
use mathlib.Core.Logic.{⊎_elim, ◌↔◌}
use Prim.Native.Nat.{ℕ, zero, suc, ◌+◌, ◌<◌}
use native.Mathlib.Nat.{eq-or-lt_of_le}
use native.Mathlib.Numerals.{add-one}
use native.Mathlib.Omega.{arith}
use Rattle.answer.specs.declared.Group.{Group}
use Rattle.answer.specs.declared.Refusal.{Refusal}
use Rattle.std.specs.Prelude.{Result, Ok, IsErrAnd}
use Rattle.std.proofs.lemmas.Result.{err_from_is_err_and}
use Rattle.answer.specs.Paper.{Answer, gives, refused, Check, accepted, refusal_says, says, ◌and_then◌, refuse, first}

-- ---- one check after another

module _ {A : Type 0} where
  -- past a check that passed
  pub go : {x : Check} {y p : Answer A} → x ≡ accepted → p ≡ y → p ≡ (x and_then y)
  go e h = rw e h

  -- a refusal stands, whatever comes after it
  pub stand : {x : Check} {g : Group} {n at : ℕ} (y : Answer A) → x ≡ refused g n at → (x and_then y) ≡ refused g n at
  stand y e = rw e

  -- a test that holds ends the chain, and one that does not hold leaves the next
  pub hit : {test : Bool} (g : Group) (n at : ℕ) (y : Answer A) → test ≡ true → refused g n at ≡ (refuse test g n at and_then y)
  hit g n at y e = rw e

  pub miss : {test : Bool} (g : Group) (n at : ℕ) {p y : Answer A} → test ≡ false → p ≡ y → p ≡ (refuse test g n at and_then y)
  miss g n at e h = rw e h

  pub and_then-assoc : (x y : Check) (z : Answer A) → ((x and_then y) and_then z) ≡ (x and_then (y and_then z))
  and_then-assoc (gives _) y z = refl
  and_then-assoc (refused g n at) y z = refl

pub and_then-accepted : (x : Check) → (x and_then accepted) ≡ x
and_then-accepted (gives _) = refl
and_then-accepted (refused g n at) = refl

-- both of two checks that passed together passed
pub both : (x y : Check) → (x and_then y) ≡ accepted → (x ≡ accepted) × (y ≡ accepted)
both (gives _) y e = (refl, e)
both (refused g n at) y e = (cc, cc)

-- a refusal gives nothing, and so is no consent
pub never-given : {A : Type 0} {x : Answer A} {v : A} {g : Group} {n at : ℕ} → x ≡ refused g n at → x ≡ gives v → ⊥
never-given r a = let z : ◌≡◌ {A = ℕ} 0 1 = cc in omega arith

-- a check that passed does so because its test does not hold
pub not-refused : (test : Bool) (g : Group) (n at : ℕ) → refuse test g n at ≡ accepted → test ≡ false
not-refused true g n at e = cc
not-refused false g n at e = refl

-- so exactly where the tests do not hold
pub both_is : (x y : Check) → ((x and_then y) ≡ accepted) ↔ ((x ≡ accepted) × (y ≡ accepted))
both_is x y = (both x y, λ p. rw p.0 p.1)

pub refuse-is : (test : Bool) (g : Group) (n at : ℕ) → (refuse test g n at ≡ accepted) ↔ (test ≡ false)
refuse-is test g n at = (not-refused test g n at, λ e. rw e)

-- a value is given where the check before it passed
pub given : {A : Type 0} (x : Check) {u v : A} → (x and_then gives u) ≡ gives v → (x ≡ accepted) × (u ≡ v)
given (gives _) e = (refl, cc)
given (refused g n at) e = (cc, cc)

-- and none where it refused
pub not-given : {A : Type 0} (x : Check) (u : A) {g : Group} {n at : ℕ} → (x and_then gives u) ≡ refused g n at → x ≡ refused g n at
not-given (gives _) u e = cc
not-given (refused g n at) u e = cc

-- what `?` hands on of a refusal is that refusal, and it stands for whatever was still to come
pub handed : {A : Type 0} (r : Result A Refusal) (e : Refusal) → IsErrAnd r (λ x. x ≡ e) → says r ≡ refusal_says e
handed r e h = let p = err_from_is_err_and r h in rw (p.1, p.2)

pub stop : {B : Type 0} (r : Result B Refusal) (e : Refusal) {x : Check} (y : Answer B) → IsErrAnd r (λ z. z ≡ e) → refusal_says {A = Unit {0}} e ≡ x → says r ≡ (x and_then y)
stop r e y h k = handed r e h ∙ sym (stand y (sym k))

-- a check of which the program went on passed
pub passed : {v : Result (Unit {0}) Refusal} {x : Check} → v ≡ Ok tt → says v ≡ x → x ≡ accepted
passed e h = sym h ∙ ap says e

-- ---- the first refusal among many

module _ (f : ℕ → Check) where
  pub first-none : first f 0 ≡ accepted
  unfolding first
  first-none = refl

  pub first_more : (i : ℕ) → first f i ≡ accepted → f i ≡ accepted → first f (i + 1) ≡ accepted
  unfolding first
  first_more i a e = rw (add-one, a) e

  -- the refusal of check i, where all before it passed, is the first, whatever comes after it
  pub first-stop : (i n : ℕ) {g : Group} {k at : ℕ} → i < n → first f i ≡ accepted → f i ≡ refused g k at → first f n ≡ refused g k at
  unfolding first
  first-stop i zero h a e = absurd (omega arith)
  first-stop i (suc n) h a e = ⊎_elim (λ q. rw (← q, a) e) (λ l. stand (f n) (first-stop i n l a e)) (eq-or-lt_of_le {n = i} {m = n} (omega arith))

  -- the same, where `?` hands it on
  pub first_stops : (r : Result (Unit {0}) Refusal) (e : Refusal) (i n : ℕ) → i < n → first f i ≡ accepted → IsErrAnd r (λ z. z ≡ e) → refusal_says {A = Unit {0}} e ≡ f i → says r ≡ first f n
  first_stops r e i n h a q p = handed r e q ∙ sym (first-stop i n h a (sym p))

  -- the walk passes exactly where each check does
  pub all-passed : (n : ℕ) → ((i : ℕ) → i < n → f i ≡ accepted) → first f n ≡ accepted
  unfolding first
  all-passed zero h = refl
  all-passed (suc n) h = rw (all-passed n (λ i l. h i (omega arith))) (h n (omega arith))

  pub each-passed : (n : ℕ) → first f n ≡ accepted → (i : ℕ) → i < n → f i ≡ accepted
  unfolding first
  each-passed zero e i h = absurd (omega arith)
  each-passed (suc n) e i h =
      let two = both (first f n) (f n) e in
      ⊎_elim (λ q. rw q two.1) (each-passed n two.0 i) (eq-or-lt_of_le {n = i} {m = n} (omega arith))

  pub each-is : (n : ℕ) → (first f n ≡ accepted) ↔ ((i : ℕ) → i < n → f i ≡ accepted)
  each-is n = (each-passed n, all-passed n)

  -- and its refusal is that of a check before which all passed
  pub first-refused : (n : ℕ) {g : Group} {k at : ℕ} → first f n ≡ refused g k at → (i : ℕ) × (i < n) × (first f i ≡ accepted) × (f i ≡ refused g k at)
  unfolding first
  first-refused zero e = absurd (let z : ◌≡◌ {A = ℕ} 0 1 = cc in omega arith)
  first-refused (suc n) {g} {k} {at} e = last (first f n) refl e (first-refused n)
    where
      last : (x : Check) → first f n ≡ x → (x and_then f n) ≡ refused g k at
          → (first f n ≡ refused g k at → (i : ℕ) × (i < n) × (first f i ≡ accepted) × (f i ≡ refused g k at))
          → (i : ℕ) × (i < suc n) × (first f i ≡ accepted) × (f i ≡ refused g k at)
      last (gives _) q h before = (n, omega arith, q, h)
      last (refused g' k' at') q h before = let p = before (q ∙ h) in (p.0, omega arith, p.2, p.3)
