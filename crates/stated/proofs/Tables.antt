-- A list as the table of what stands at each index. Assumes nothing.
use mathlib.Core.Path.{◌≡◌, refl, ap, ◌∙◌}
use mathlib.Core.List.{List, [], ◌∷◌}
use Prim.Native.Nat.{ℕ, zero, suc, ◌<◌}
use native.Mathlib.Omega.{arith}
use lib.ListN.{length, get_or}
use lib.Seq.{ext_get_or}

module _ {A : Type 0} where
  -- f 0, f 1, .., f (n - 1)
  unfoldable pub tabled : (ℕ → A) → ℕ → List A
  tabled f zero = []
  tabled f (suc n) = f 0 ∷ tabled (λ k. f (suc k)) n

  pub tabled-length : (f : ℕ → A) (n : ℕ) → length (tabled f n) ≡ n
  unfolding tabled
  tabled-length f zero = refl
  tabled-length f (suc n) = ap suc (tabled-length (λ k. f (suc k)) n)

  tabled-at : (f : ℕ → A) (n : ℕ) (d : A) (k : ℕ) → k < n → get_or (tabled f n) k d ≡ f k
  unfolding tabled
  tabled-at f zero d k h = absurd (omega arith)
  tabled-at f (suc n) d zero h = refl
  tabled-at f (suc n) d (suc k) h = tabled-at (λ j. f (suc j)) n d k (omega arith)

  -- what holds of each entry
  pub tabled-each : (P : ℕ → A → Type 0) (f : ℕ → A) (n : ℕ) (d : A) → ((k : ℕ) → k < n → P k (f k)) → (k : ℕ) → k < length (tabled f n) → P k (get_or (tabled f n) k d)
  tabled-each P f n d h k l = let m : k < n = omega (arith, tabled-length f n) in rw (tabled-at f n d k m) (h k m)

  -- a list is the table of its elements
  pub tabled-of : (f : ℕ → A) (d : A) (l : List A) → ((k : ℕ) → k < length l → f k ≡ get_or l k d) → tabled f (length l) ≡ l
  tabled-of f d l h =
      ext_get_or d (tabled f (length l)) l (tabled-length f (length l)) (λ k m.
      let n : k < length l = omega (arith, tabled-length f (length l)) in tabled-at f (length l) d k n ∙ h k n)
