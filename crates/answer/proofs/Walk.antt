-- Laws of walks: a test at each index, and the first index at which a test holds; where the walk begins, one index further, where it ends, and what
-- that tells. Then laws of what there may be: exactly when something is there, and what holds of it. Assumes nothing.
use mathlib.Core.Path.{◌≡◌, refl, ap, sym, ◌∙◌}
use mathlib.Core.Bool.{Bool, true, false, cond, ◌&&◌, true≢false}
use mathlib.Core.Logic.{◌⊎◌, inl, inr, ⊎_elim, ◌↔◌}
use Rattle.std.specs.Prelude.{Option, None, Some}
use Rattle.std.proofs.lemmas.Option.{none-some}
use Prim.Native.Nat.{ℕ, zero, suc, ◌+◌, ◌<◌}
use native.Mathlib.Nat.{eq-or-lt_of_le}
use native.Mathlib.Numerals.{add-one}
use native.Mathlib.Omega.{arith}
use Rattle.answer.specs.Walk.{each, ◌or_else◌, first_where, is_some}
use Rattle.answer.proofs.Tests.{both_hold, fails-is}

module _ (test : ℕ → Bool) where
  -- ---- at each index

  pub each_none : each test 0 ≡ true
  unfolding each
  each_none = refl

  -- as a loop has it that keeps in `ok` whether all passed so far
  pub each_more : (i : ℕ) {ok now : Bool} → ok ≡ each test i → now ≡ test i → (ok && now) ≡ each test (i + 1)
  unfolding each
  each_more i e h = rw (add-one i, e, h)

  -- exactly where it holds at every one of them
  pub each_all : (n : ℕ) → ((k : ℕ) → k < n → test k ≡ true) → each test n ≡ true
  unfolding each
  each_all zero h = refl
  each_all (suc n) h = rw (each_all n (λ k l. h k (omega arith)), h n (omega arith))

  pub each_at : (n : ℕ) → each test n ≡ true → (k : ℕ) → k < n → test k ≡ true
  unfolding each
  each_at zero h k l = absurd (omega arith)
  each_at (suc n) h k l =
      let two = both_hold (each test n) (test n) h in
      ⊎_elim (λ e. rw e two.1) (each_at n two.0 k) (eq-or-lt_of_le {n = k} {m = n} (omega arith))

  -- ---- the first

  pub where-none : first_where test 0 ≡ None
  unfolding first_where
  where-none = refl

  pub where-more : (i : ℕ) → first_where test i ≡ None → test i ≡ false → first_where test (i + 1) ≡ None
  unfolding first_where
  where-more i e h = rw (add-one i, e, h)

  -- found at i, whatever comes after it
  pub where-at : (i n : ℕ) → i < n → first_where test i ≡ None → test i ≡ true → first_where test n ≡ Some i
  unfolding first_where
  where-at i zero h e t = absurd (omega arith)
  where-at i (suc n) h e t = ⊎_elim (λ q. rw (← q, e, t)) (λ l. rw (where-at i n l e t)) (eq-or-lt_of_le {n = i} {m = n} (omega arith))

  -- none is found where the test holds nowhere
  pub where-nowhere : (n : ℕ) → first_where test n ≡ None → (i : ℕ) → i < n → test i ≡ false
  unfolding first_where
  where-nowhere zero e i h = absurd (omega arith)
  where-nowhere (suc n) e i h = last (first_where test n) (test n) refl refl e (where-nowhere n)
    where
      last : (found : Option ℕ) (b : Bool) → first_where test n ≡ found → test n ≡ b → (found or_else cond b (Some n) None) ≡ None
          → (first_where test n ≡ None → (j : ℕ) → j < n → test j ≡ false) → test i ≡ false
      last (Some k) b p q r before = cc
      last None true p q r before = cc
      last None false p q r before = ⊎_elim (λ x. rw x q) (before p i) (eq-or-lt_of_le {n = i} {m = n} (omega arith))

  pub where-nothing : (n : ℕ) → ((i : ℕ) → i < n → test i ≡ false) → first_where test n ≡ None
  unfolding first_where
  where-nothing zero h = refl
  where-nothing (suc n) h = rw (where-nothing n (λ i l. h i (omega arith)), h n (omega arith))

  -- what is found is the first index at which it holds
  pub where_found : (n i : ℕ) → first_where test n ≡ Some i → (i < n) × (test i ≡ true) × (first_where test i ≡ None)
  unfolding first_where
  where_found zero i e = absurd (let z : ◌≡◌ {A = ℕ} 0 1 = cc in omega arith)
  where_found (suc n) i e = last (first_where test n) (test n) refl refl e (where_found n i)
    where
      last : (found : Option ℕ) (b : Bool) → first_where test n ≡ found → test n ≡ b → (found or_else cond b (Some n) None) ≡ Some i
          → (first_where test n ≡ Some i → (i < n) × (test i ≡ true) × (first_where test i ≡ None)) → (i < suc n) × (test i ≡ true) × (first_where test i ≡ None)
      last (Some k) b p q r before = let here = before (p ∙ r) in (omega (arith, here.0), here.1, here.2)
      last None true p q r before = let at : n ≡ i = cc in (omega arith, rw (← at) q, rw (← at) p)
      last None false p q r before = absurd (let z : ◌≡◌ {A = ℕ} 0 1 = cc in omega arith)

-- ---- whether anything is found

pub not_some : (found : Option ℕ) → is_some found ≡ false → found ≡ None
not_some (Some i) e = absurd (true≢false e)
not_some None e = refl

pub nowhere-is : (test : ℕ → Bool) (n : ℕ) → (is_some (first_where test n) ≡ false) ↔ ((i : ℕ) → i < n → test i ≡ true → ⊥)
nowhere-is test n = (
  λ e i l. (fails-is (test i)).0 (where-nowhere test n (not_some (first_where test n) e) i l),
  λ h. ap is_some (where-nothing test n (λ i l. (fails-is (test i)).1 (h i l))),
)

-- ---- what there may be

module _ {A : Type 0} where
  -- something only where a test holds, or only where it does not
  pub if-is : (test : Bool) (o : Option A) (a : A) → (cond test o None ≡ Some a) ↔ ((test ≡ true) × (o ≡ Some a))
  if-is true o a = (λ e. (refl, e), λ p. p.1)
  if-is false o a = (λ e. absurd (none-some a e), λ p. absurd (true≢false (sym p.0)))

  pub else_is : (test : Bool) (o : Option A) (a : A) → (cond test None o ≡ Some a) ↔ ((test ≡ false) × (o ≡ Some a))
  else_is true o a = (λ e. absurd (none-some a e), λ p. absurd (true≢false p.0))
  else_is false o a = (λ e. (refl, e), λ p. p.1)

  -- of two the first that is there
  pub either-found : (o next : Option A) (a : A) → (o or_else next) ≡ Some a → (o ≡ Some a) ⊎ (next ≡ Some a)
  either-found (Some b) next a e = inl e
  either-found None next a e = inr e

  module _ (X : Option A → Type 0) (P : A → Type 0) (is : (a : A) → X (Some a) ↔ P a) where
    -- what does not hold of nothing holds exactly where there is something of which it holds
    pub there-is : (X None → ⊥) → (o : Option A) → X o ↔ ((a : A) × (o ≡ Some a) × P a)
    there-is not_None (Some a) = (λ x. (a, refl, (is a).0 x), λ p. let same : a ≡ p.0 = cc in (is a).1 (rw same p.2))
    there-is not_None None = (λ x. absurd (not_None x), λ p. absurd (none-some p.0 p.1))

    -- and what holds of nothing, exactly where it holds of what there is
    pub any-is : X None → (o : Option A) → X o ↔ ((a : A) → o ≡ Some a → P a)
    any-is of_none (Some a) = (λ x b q. let same : b ≡ a = cc in rw same ((is a).0 x), λ h. (is a).1 (h a refl))
    any-is of_none None = (λ x b q. absurd (none-some b q), λ _. of_none)
