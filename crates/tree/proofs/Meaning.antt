-- A form means what its tree means: forward it gives what the tree, worked out with each step held to 64 bits, gives (`form-means`). That is none exactly where
-- a step passes 2^64 - 1 (`form-none`), and otherwise the tree's number in plain numbers (`form-plain`). Assumes nothing.
use mathlib.Core.Path.{◌≡◌, refl, sym, ap, ◌∙◌}
use mathlib.Core.Logic.{◌⊎◌, inl, inr, ⊎_elim, ◌↔◌}
use Rattle.std.specs.Prelude.{Option, None, Some}
use Rattle.std.proofs.lemmas.Option.{none-some}
use Prim.Native.Nat.{ℕ, ◌+◌, ◌*◌, ◌^◌, ◌≤◌, ◌<◌}
use native.Mathlib.Nat.{add_comm, mul_comm}
use native.Mathlib.Decide.{dec_lt}
use native.Mathlib.Omega.{arith}
use borrow.Author.Tests.{lt-ltb, le-ltb}
use Rattle.expr.specs.declared.UsableAlgExpr.{UsableAlgExpr}
use Rattle.expr.specs.Forms.{in64_bits, ◌then◌, plus, times, forward}
use Rattle.tree.specs.Stands.{AlgExpr, num, ident, add, mul}
use Rattle.tree.specs.IsForm.{EitherOrder, IsForm, itself, added, multiplied, product-plus, addition-times}
use Rattle.tree.specs.Meaning.{of_both, worked_out, plainly, Passes}

-- ---- a form gives what its tree gives

-- a step that is the same in either order
both-comm : (f : ℕ → ℕ → ℕ) → ((n k : ℕ) → f n k ≡ f k n) → (o q : Option ℕ) → of_both (λ n k. in64_bits (f n k)) o q ≡ of_both (λ n k. in64_bits (f n k)) q o
both-comm f comm (Some n) (Some k) = ap in64_bits (comm n k)
both-comm f comm (Some n) None = refl
both-comm f comm None (Some k) = refl
both-comm f comm None None = refl

-- and with a number that is there
with_number : (f : ℕ → ℕ → ℕ) (o : Option ℕ) (k : ℕ) → (o then λ n. in64_bits (f n k)) ≡ of_both (λ n k. in64_bits (f n k)) o (Some k)
with_number f (Some n) k = refl
with_number f None k = refl

module _ (x : ℕ) where
  either-sum : {t u w : AlgExpr} → EitherOrder add t u w → worked_out w x ≡ worked_out (add t u) x
  unfolding worked_out
  either-sum (inl q) = ap (λ t. worked_out t x) q
  either-sum {t} {u} (inr q) = ap (λ t. worked_out t x) q ∙ both-comm ◌+◌ add_comm (worked_out u x) (worked_out t x)

  either-product : {t u w : AlgExpr} → EitherOrder mul t u w → worked_out w x ≡ worked_out (mul t u) x
  unfolding worked_out
  either-product (inl q) = ap (λ t. worked_out t x) q
  either-product {t} {u} (inr q) = ap (λ t. worked_out t x) q ∙ both-comm ◌*◌ mul_comm (worked_out u x) (worked_out t x)

pub form-means : {t : AlgExpr} {e : UsableAlgExpr} → IsForm t e → (x : ℕ) → forward e x ≡ worked_out t x
unfolding worked_out
form-means itself x = refl
form-means (added {a = a} q) x = ap in64_bits (add_comm x a) ∙ sym (either-sum x q)
form-means (multiplied {m = m} q) x = ap in64_bits (mul_comm x m) ∙ sym (either-product x q)
form-means (product-plus {p = p} {a = a} f q) x =
    ap (λ o. o then plus a) (form-means f x) ∙ with_number ◌+◌ (worked_out p x) a ∙ sym (either-sum x q)
form-means (addition-times {p = p} {m = m} f q) x =
    ap (λ o. o then times m) (form-means f x) ∙ with_number ◌*◌ (worked_out p x) m ∙ sym (either-product x q)

-- ---- none where a step passes, otherwise the plain number

-- a number n that is there where nothing of P holds, and is not there where P does
data Settles (o : Option ℕ) (n : ℕ) (P : Type 0) : Type 0 where
  fits : o ≡ Some n → (P → ⊥) → Settles o n P
  past : o ≡ None → P → Settles o n P

step-settles : (f : ℕ → ℕ → ℕ) {o q : Option ℕ} {n k : ℕ} {P Q : Type 0} → Settles o n P → Settles q k Q
    → Settles (of_both (λ n k. in64_bits (f n k)) o q) (f n k) (P ⊎ (Q ⊎ (2 ^ 64 ≤ f n k)))
unfolding in64_bits
step-settles f (past e p) second = past (rw e) (inl p)
step-settles f (fits e no-p) (past d q) = past (rw (e, d)) (inr (inl q))
step-settles f {o} {q} {n} {k} {P} {Q} (fits e no-p) (fits d no-q) = go (dec_lt (f n k) (2 ^ 64))
  where
    go : Dec (f n k < 2 ^ 64) → Settles (of_both (λ n k. in64_bits (f n k)) o q) (f n k) (P ⊎ (Q ⊎ (2 ^ 64 ≤ f n k)))
    go (yes l) = fits (rw (e, d, lt-ltb _ _ l)) (⊎_elim no-p (⊎_elim no-q (λ h. omega arith)))
    go (no l) = past (rw (e, d, le-ltb (f n k) (2 ^ 64) (omega arith))) (inr (inr (omega arith)))

module _ (x : ℕ) where
  abbrev Settled : AlgExpr → Type 0
  Settled t = Settles (worked_out t x) (plainly t x) (Passes t x)

  sum-settled : (t u : AlgExpr) → Settled t → Settled u → Settled (add t u)
  unfolding worked_out plainly Passes
  sum-settled t u = step-settles ◌+◌

  product-settled : (t u : AlgExpr) → Settled t → Settled u → Settled (mul t u)
  unfolding worked_out plainly Passes
  product-settled t u = step-settles ◌*◌

  leaf-settled : (n : ℕ) → Settled (num n)
  unfolding worked_out plainly Passes
  leaf-settled n = fits refl (λ p. p)

  x-settled : Settled ident
  unfolding worked_out plainly Passes
  x-settled = fits refl (λ p. p)

  either-settled : (op : AlgExpr → AlgExpr → AlgExpr) (t u : AlgExpr) {w : AlgExpr} → ((a b : AlgExpr) → Settled a → Settled b → Settled (op a b))
      → EitherOrder op t u w → Settled t → Settled u → Settled w
  either-settled op t u join (inl q) one two = rw q (join t u one two)
  either-settled op t u join (inr q) one two = rw q (join u t two one)

  form-settled : {t : AlgExpr} {e : UsableAlgExpr} → IsForm t e → Settled t
  form-settled itself = x-settled
  form-settled (added {a = a} q) = either-settled add (num a) ident sum-settled q (leaf-settled a) x-settled
  form-settled (multiplied {m = m} q) = either-settled mul (num m) ident product-settled q (leaf-settled m) x-settled
  form-settled (product-plus {p = p} {a = a} f q) = either-settled add p (num a) sum-settled q (form-settled f) (leaf-settled a)
  form-settled (addition-times {p = p} {m = m} f q) = either-settled mul p (num m) product-settled q (form-settled f) (leaf-settled m)

pub form-none : {t : AlgExpr} {e : UsableAlgExpr} → IsForm t e → (x : ℕ) → (forward e x ≡ None) ↔ Passes t x
form-none {t} {e} f x = go (form-settled x f) (form-means f x)
  where
    go : Settled x t → forward e x ≡ worked_out t x → (forward e x ≡ None) ↔ Passes t x
    go (fits q n) m = (λ z. absurd (none-some (plainly t x) (sym z ∙ m ∙ q)), λ p. absurd (n p))
    go (past q p) m = (λ _. p, λ _. m ∙ q)

pub form-plain : {t : AlgExpr} {e : UsableAlgExpr} → IsForm t e → (x y : ℕ) → forward e x ≡ Some y → y ≡ plainly t x
form-plain {t} {e} f x y h = go (form-settled x f) (form-means f x)
  where
    go : Settled x t → forward e x ≡ worked_out t x → y ≡ plainly t x
    go (fits q n) m = cc
    go (past q p) m = cc
