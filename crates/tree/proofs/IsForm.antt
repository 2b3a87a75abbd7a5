-- The classifier gives a form exactly where the tree that stands at the node is that form: `is-form`; and a tree is one form at most: `form-one`. What each
-- part of the classifier finds is a part of a form, one law for sums and products alike; the other way round it is computed. Assumes nothing.
use mathlib.Core.Path.{◌≡◌, refl, sym, ap, ◌∙◌}
use mathlib.Core.Bool.{Bool, true, false, cond}
use mathlib.Core.Logic.{◌⊎◌, inl, inr, ⊎_elim, ◌↔◌}
use Rattle.std.specs.Prelude.{Option, None, Some}
use Rattle.std.proofs.lemmas.Option.{none-some}
use Prim.Native.Nat.{ℕ}
use Rattle.answer.specs.Walk.{◌or_else◌}
use Rattle.answer.proofs.Walk.{either-found, there-is}
use Rattle.blocks.specs.declared.nodes.Node.{Node}
use Rattle.expr.specs.declared.UsableAlgExpr.{UsableAlgExpr}
use Rattle.tree.specs.Tree.{NodeTable, leaf_number, is_x, beside_x, addend, factor, with_one, with_two, usable}
use Rattle.tree.specs.Stands.{AlgExpr, num, ident, add, mul, Stands}
use Rattle.tree.specs.IsForm.{EitherOrder, IsForm, itself, added, multiplied, product-plus, addition-times}
use Rattle.tree.proofs.Stands.{stands_one, some-table}

-- ---- leaves

number_is : (p : Node) (n : ℕ) → leaf_number p ≡ Some n → p ≡ Node.Num n
number_is (Node.Num k) n e = cc
number_is Node.Ident n e = cc
number_is (Node.Add l r) n e = cc
number_is (Node.Sub l r) n e = cc
number_is (Node.Mul l r) n e = cc
number_is (Node.Div l r) n e = cc

x-is : (p : Node) → is_x p ≡ true → p ≡ Node.Ident
x-is (Node.Num k) e = cc
x-is Node.Ident e = refl
x-is (Node.Add l r) e = cc
x-is (Node.Sub l r) e = cc
x-is (Node.Mul l r) e = cc
x-is (Node.Div l r) e = cc

beside-is : (p q : Node) (n : ℕ) → beside_x p q ≡ Some n → ((p ≡ Node.Num n) × (q ≡ Node.Ident)) ⊎ ((p ≡ Node.Ident) × (q ≡ Node.Num n))
beside-is p q n e = go (is_x p) (is_x q) refl refl e
  where
    go : (x y : Bool) → is_x p ≡ x → is_x q ≡ y → cond y (leaf_number p) (cond x (leaf_number q) None) ≡ Some n
        → ((p ≡ Node.Num n) × (q ≡ Node.Ident)) ⊎ ((p ≡ Node.Ident) × (q ≡ Node.Num n))
    go x true h k e = inl (number_is p n e, x-is q k)
    go true false h k e = inr (x-is p h, number_is q n e)
    go false false h k e = absurd (none-some n e)

-- a form with one number, and with two
module _ (e : UsableAlgExpr) where
  one-is : (form : ℕ → UsableAlgExpr) (o : Option ℕ) → (with_one form o ≡ Some e) ↔ ((n : ℕ) × (o ≡ Some n) × (form n ≡ e))
  one-is form = there-is (λ o. with_one form o ≡ Some e) (λ n. form n ≡ e) (λ n. (λ q. cc, λ q. ap Some q)) (none-some e)

  two_is : (form : ℕ → ℕ → UsableAlgExpr) (o next : Option ℕ) → (with_two form o next ≡ Some e)
      ↔ ((n : ℕ) × (o ≡ Some n) × ((k : ℕ) × (next ≡ Some k) × (form n k ≡ e)))
  two_is form o next = there-is (λ o. with_two form o next ≡ Some e) _ (λ n. one-is (form n) next) (none-some e) o

-- ---- what is found is a form

-- an operator over a number and x is a form, and so it is over another form and a number
record Rule : Type 0 where
  op : AlgExpr → AlgExpr → AlgExpr
  simple : ℕ → UsableAlgExpr
  inner : ℕ → UsableAlgExpr
  whole : ℕ → ℕ → UsableAlgExpr
  of-simple : (t : AlgExpr) (n : ℕ) → EitherOrder op (num n) ident t → IsForm t (simple n)
  of-whole : (p t : AlgExpr) (n k : ℕ) → IsForm p (inner n) → EitherOrder op p (num k) t → IsForm t (whole n k)

abbrev sums : Rule
sums =
    record {
      op = add;
      simple = UsableAlgExpr.SimpleAdd;
      inner = UsableAlgExpr.SimpleMult;
      whole = UsableAlgExpr.MultAdd;
      of-simple = λ t n. added;
      of-whole = λ p t n k. product-plus;
    }

abbrev products : Rule
products =
    record {
      op = mul;
      simple = UsableAlgExpr.SimpleMult;
      inner = UsableAlgExpr.SimpleAdd;
      whole = UsableAlgExpr.AddMult;
      of-simple = λ t n. multiplied;
      of-whole = λ p t n k. addition-times;
    }

module _ (at : NodeTable) where
  -- a node's tree is the form
  abbrev NodeForm : Node → UsableAlgExpr → Type 0
  NodeForm p e = (t : AlgExpr) × Stands at p t × IsForm t e

  module _ (rule : Rule) where
    open rule use {op, simple, inner, whole, of-simple, of-whole}

    abbrev Joined : Node → Node → UsableAlgExpr → Type 0
    Joined p q e = (t u : AlgExpr) × Stands at p t × Stands at q u × IsForm (op t u) e

    beside-form : (p q : Node) (n : ℕ) → beside_x p q ≡ Some n → Joined p q (simple n)
    unfolding Stands
    beside-form p q n e =
        ⊎_elim (λ h. (num n, ident, h.0, h.1, of-simple _ n (inl refl))) (λ h. (ident, num n, h.0, h.1, of-simple _ n (inr refl))) (beside-is p q n e)

    module _ (find : Node → Option ℕ) (found : (p : Node) (n : ℕ) → find p ≡ Some n → NodeForm p (inner n)) where
      inner-form : (p q : Node) (e : UsableAlgExpr) → with_two whole (find p) (leaf_number q) ≡ Some e
          → (t : AlgExpr) × (k : ℕ) × Stands at p t × Stands at q (num k) × ((u : AlgExpr) → EitherOrder op t (num k) u → IsForm u e)
      unfolding Stands
      inner-form p q e h =
          let w = (two_is e whole (find p) (leaf_number q)).0 h in
          let k = w.2.0 in
          let i = found p w.0 w.1 in
          (i.0, k, i.1, number_is q k w.2.1, λ u o. rw (← w.2.2) (of-whole i.0 u w.0 k i.2 o))

      joined_is : (p q : Node) (e : UsableAlgExpr)
          → (with_one simple (beside_x p q) or_else with_two whole (find p) (leaf_number q) or_else with_two whole (find q) (leaf_number p)) ≡ Some e → Joined p q e
      joined_is p q e h =
          ⊎_elim
          (λ o. let w = (one-is e simple (beside_x p q)).0 o in rw (← w.2) (beside-form p q w.0 w.1))
          (λ o. ⊎_elim
          (λ b. let i = inner-form p q e b in (i.0, num i.1, i.2, i.3, i.4 _ (inl refl)))
          (λ b. let i = inner-form q p e b in (num i.1, i.0, i.3, i.2, i.4 _ (inr refl)))
          (either-found (with_two whole (find p) (leaf_number q)) _ e o))
          (either-found (with_one simple (beside_x p q)) _ e h)

  addend-is : (p : Node) (a : ℕ) → addend at p ≡ Some a → NodeForm p (UsableAlgExpr.SimpleAdd a)
  unfolding Stands
  addend-is (Node.Num n) a e = absurd (none-some a e)
  addend-is Node.Ident a e = absurd (none-some a e)
  addend-is (Node.Add l r) a e =
      let j = beside-form sums (at l) (at r) a e in
      (add j.0 j.1, (l, r, refl, j.2, j.3), j.4)
  addend-is (Node.Sub l r) a e = absurd (none-some a e)
  addend-is (Node.Mul l r) a e = absurd (none-some a e)
  addend-is (Node.Div l r) a e = absurd (none-some a e)

  factor-is : (p : Node) (m : ℕ) → factor at p ≡ Some m → NodeForm p (UsableAlgExpr.SimpleMult m)
  unfolding Stands
  factor-is (Node.Num n) m e = absurd (none-some m e)
  factor-is Node.Ident m e = absurd (none-some m e)
  factor-is (Node.Add l r) m e = absurd (none-some m e)
  factor-is (Node.Sub l r) m e = absurd (none-some m e)
  factor-is (Node.Mul l r) m e =
      let j = beside-form products (at l) (at r) m e in
      (mul j.0 j.1, (l, r, refl, j.2, j.3), j.4)
  factor-is (Node.Div l r) m e = absurd (none-some m e)

  usable-is : (p : Node) (e : UsableAlgExpr) → usable at p ≡ Some e → NodeForm p e
  unfolding Stands
  usable-is (Node.Num n) e h = absurd (none-some e h)
  usable-is Node.Ident e h = (ident, refl, let same : UsableAlgExpr.IdentOnly ≡ e = cc in rw (← same) itself)
  usable-is (Node.Add l r) e h =
      let j = joined_is sums (factor at) factor-is (at l) (at r) e h in
      (add j.0 j.1, (l, r, refl, j.2, j.3), j.4)
  usable-is (Node.Sub l r) e h = absurd (none-some e h)
  usable-is (Node.Mul l r) e h =
      let j = joined_is products (addend at) addend-is (at l) (at r) e h in
      (mul j.0 j.1, (l, r, refl, j.2, j.3), j.4)
  usable-is (Node.Div l r) e h = absurd (none-some e h)

  -- ---- a form is found

  is-usable : (p : Node) {t : AlgExpr} {e : UsableAlgExpr} → IsForm t e → Stands at p t → usable at p ≡ Some e
  unfolding Stands
  is-usable p itself s = rw s
  is-usable p (added (inl q)) h = let s = rw q at h in rw (s.2, s.3, s.4)
  is-usable p (added (inr q)) h = let s = rw q at h in rw (s.2, s.3, s.4)
  is-usable p (multiplied (inl q)) h = let s = rw q at h in rw (s.2, s.3, s.4)
  is-usable p (multiplied (inr q)) h = let s = rw q at h in rw (s.2, s.3, s.4)
  is-usable p (product-plus (multiplied (inl f)) (inl q)) h = let s = rw (q, f) at h in rw (s.2, s.3.2, s.3.3, s.3.4, s.4)
  is-usable p (product-plus (multiplied (inl f)) (inr q)) h = let s = rw (q, f) at h in rw (s.2, s.4.2, s.4.3, s.4.4, s.3)
  is-usable p (product-plus (multiplied (inr f)) (inl q)) h = let s = rw (q, f) at h in rw (s.2, s.3.2, s.3.3, s.3.4, s.4)
  is-usable p (product-plus (multiplied (inr f)) (inr q)) h = let s = rw (q, f) at h in rw (s.2, s.4.2, s.4.3, s.4.4, s.3)
  is-usable p (addition-times (added (inl f)) (inl q)) h = let s = rw (q, f) at h in rw (s.2, s.3.2, s.3.3, s.3.4, s.4)
  is-usable p (addition-times (added (inl f)) (inr q)) h = let s = rw (q, f) at h in rw (s.2, s.4.2, s.4.3, s.4.4, s.3)
  is-usable p (addition-times (added (inr f)) (inl q)) h = let s = rw (q, f) at h in rw (s.2, s.3.2, s.3.3, s.3.4, s.4)
  is-usable p (addition-times (added (inr f)) (inr q)) h = let s = rw (q, f) at h in rw (s.2, s.4.2, s.4.3, s.4.4, s.3)

-- ---- exactly

pub is-form : (at : NodeTable) (p : Node) (e : UsableAlgExpr) → (usable at p ≡ Some e) ↔ ((t : AlgExpr) × Stands at p t × IsForm t e)
is-form at p e = (usable-is at p e, λ f. is-usable at p f.2 f.1)

-- so of a node with a tree: exactly where the tree is that form, and nothing exactly where it is none
pub form-of-tree : (at : NodeTable) (p : Node) (t : AlgExpr) → Stands at p t → (e : UsableAlgExpr) → (usable at p ≡ Some e) ↔ IsForm t e
form-of-tree at p t s e = (λ q. let f = usable-is at p e q in rw (stands_one at t f.0 p s f.1) f.2, λ f. is-usable at p f s)

pub no-form : (at : NodeTable) (p : Node) (t : AlgExpr) → Stands at p t → (usable at p ≡ None) ↔ ((e : UsableAlgExpr) → IsForm t e → ⊥)
no-form at p t s = (λ q e f. none-some e (sym q ∙ is-usable at p f s), λ h. go (usable at p) refl h)
  where
    go : (o : Option UsableAlgExpr) → usable at p ≡ o → ((e : UsableAlgExpr) → IsForm t e → ⊥) → usable at p ≡ None
    go (Some e) q h = absurd (h e ((form-of-tree at p t s e).0 q))
    go None q h = q

-- a tree is one form at most
pub form-one : {t : AlgExpr} {e e' : UsableAlgExpr} → IsForm t e → IsForm t e' → e ≡ e'
form-one {t} f f' =
    let table = some-table t in
    let root = table.0 0 in
    cc (is-usable table.0 root f table.1, is-usable table.0 root f' table.1)
