-- Where a field of a good header stands, reading and writing at the locator is reading and writing that field: the same is accepted, read and left; and with the
-- field's index in the locator it is refused alike too. Each test at the locator is the field's. Assumes nothing.
use mathlib.Core.Path.{◌≡◌, refl, sym, ap, ◌∙◌}
use mathlib.Core.Bool.{Bool, true, false, not, ◌&&◌}
use mathlib.Core.List.{List}
use mathlib.Core.Logic.{◌↔◌}
use Prim.Native.Nat.{ℕ, ◌*◌}
use native.Mathlib.Omega.{arith}
use lib.Dec.{ltb, eqb}
use lib.ListN.{length}
use borrow.Author.Tests.{lt-leb, ltb-true, lt-ltb}
use Rattle.answer.specs.Paper.{gives, refused, Check, accepted}
use Rattle.answer.proofs.Chains.{given}
use Rattle.answer.proofs.Tests.{same_test}
use Rattle.layout.specs.Layout.{HeaderField, field, Good}
use Rattle.layout.specs.Access.{Value, of_bytes, spells, reach, suit, run_value, value_at, read, write, write_check, after, apply}
use Rattle.layout.proofs.Access.{reach-is, write-is}
use Rattle.locator.specs.declared.Locator.{Locator}
use Rattle.locator.specs.Locator.{locator_header, first_bit, locator_width, held_is_bytes, held_default, held_fixed, field_located, reach_at, write_check_at, read_at, apply_at}
use Rattle.locator.specs.Stands.{held_if, StandsAt}
use Rattle.locator.proofs.Reached.{located-is, reached-is, writable-is}
use Rattle.locator.proofs.Stands.{stands-located}

-- ---- what a field holds

held_bytes : (slice : Bool) (f : HeaderField) → held_is_bytes (held_if slice f) ≡ slice
held_bytes true f = refl
held_bytes false f = refl

-- bytes are not fixed, and the default of a number is the field's
held-fixed : (slice : Bool) (f : HeaderField) (v : ℕ) → (slice ≡ true → f.fixed ≡ false)
    → (held_fixed (held_if slice f) && not (eqb v (held_default (held_if slice f)))) ≡ (f.fixed && not (eqb v f.default))
held-fixed true f v free = rw (free refl)
held-fixed false f v free = refl

held-free : (slice : Bool) (f : HeaderField) (v : ℕ) → (slice ≡ true → f.fixed ≡ false)
    → (held_fixed (held_if slice f) ≡ true → v ≡ held_default (held_if slice f)) ↔ (f.fixed ≡ true → v ≡ f.default)
held-free true f v free = (λ _ e. cc (free refl), λ _ e. cc)
held-free false f v free = (λ h. h, λ h. h)

-- a buffer is shorter than a header of whole bytes by bits where it is by bytes
shorter-is : (n h : ℕ) → ltb n h ≡ ltb (8 * n) (8 * h)
shorter-is n h = same_test (ltb n h) (ltb (8 * n) (8 * h)) (λ e. lt-ltb (8 * n) (8 * h) (omega (arith, ltb-true n h e))) (λ e. lt-ltb n h (omega (arith, ltb-true (8 * n) (8 * h) e)))

-- of two checks that pass together, the buffer after either
after_same : (x y : Check) (b c : List ℕ) → (x ≡ accepted) ↔ (y ≡ accepted) → after x c b ≡ after y c b
after_same (gives _) (gives _) b c same = refl
after_same (gives _) (refused g n at) b c same = let e = same.0 refl in cc
after_same (refused g n at) (gives _) b c same = let e = same.1 refl in cc
after_same (refused g n at) (refused h m at') b c same = refl

module _ {p : Locator} {fs : List HeaderField} {i : ℕ} (good : Good fs) (at : StandsAt p fs i) where
  free : (field fs i).is_bytes ≡ true → (field fs i).fixed ≡ false
  free = (good.each i at.there).free

  kind : held_is_bytes p.held ≡ (field fs i).is_bytes
  kind = ap held_is_bytes at.held ∙ held_bytes (field fs i).is_bytes (field fs i)

  -- ---- the same passes

  pub reach-as : (n : ℕ) (as_bytes : Bool) → (reach_at p n as_bytes ≡ accepted) ↔ (reach fs n as_bytes i ≡ accepted)
  reach-as n as_bytes = simp (reached-is, reach-is) (
    λ r. record { there = at.there; long = omega (arith, at.header, r.long); kind = r.kind ∙ kind },
    λ r. record { located = stands-located good at; long = omega (arith, at.header, r.long); kind = r.kind ∙ sym kind },
  )

  pub write_as_lem : (n : ℕ) (v : Value) → (write_check_at p n v ≡ accepted) ↔ (write_check fs n (write i v) ≡ accepted)
  write_as_lem n v =
      let same = held-free (field fs i).is_bytes (field fs i) (spells v) free in
      simp (writable-is, write-is) (
        λ w. record { reached = (reach-is _ _ _ _).0 ((reach-as n (of_bytes v)).0 ((reached-is _ _ _).1 w.reached)); size = rw at.width at w.size; free = same.0 (rw at.held at w.free) },
        λ a. record { reached = (reached-is _ _ _).0 ((reach-as n (of_bytes v)).1 ((reach-is _ _ _ _).1 a.reached)); size = rw at.width a.size; free = rw at.held (same.1 a.free) },
      )

  -- ---- and is read and left

  value_as : (b : List ℕ) (as_bytes : Bool) → run_value b as_bytes (first_bit p) (locator_width p) ≡ value_at fs b as_bytes i
  value_as b as_bytes = rw (at.start, at.width)

  pub read_as_lem : (b : List ℕ) (as_bytes : Bool) (v : Value) → (read_at p b as_bytes ≡ gives v) ↔ (read fs b as_bytes i ≡ gives v)
  unfolding read_at read
  read_as_lem b as_bytes v = (
    λ e. let is = given (reach_at p (length b) as_bytes) e in rw ((reach-as (length b) as_bytes).0 is.0) (ap gives (sym (value_as b as_bytes) ∙ is.1)),
    λ e. let is = given (reach fs (length b) as_bytes i) e in rw ((reach-as (length b) as_bytes).1 is.0) (ap gives (value_as b as_bytes ∙ is.1)),
  )

  pub apply-as : (b : List ℕ) (v : Value) → apply_at p b v ≡ apply fs b (write i v)
  unfolding apply_at apply
  apply-as b v = rw (← at.start, ← at.width) (after_same _ _ b _ (write_as_lem (length b) v))

  -- ---- and with the field's index it is refused alike

  module _ (here : p.index ≡ i) where
    pub reach-same : (n : ℕ) (as_bytes : Bool) → reach_at p n as_bytes ≡ reach fs n as_bytes i
    unfolding reach_at reach
    reach-same n as_bytes = rw ((located-is p).1 (stands-located good at), lt-leb (length fs) i at.there, shorter-is n (locator_header p), at.header, kind, here)

    pub read_same : (b : List ℕ) (as_bytes : Bool) → read_at p b as_bytes ≡ read fs b as_bytes i
    unfolding read_at read
    read_same b as_bytes = rw (reach-same (length b) as_bytes, at.start, at.width)

    -- access 4 and 5
    suit-same : (v : Value) → suit (field_located p) v i ≡ suit (field fs i) v i
    unfolding suit
    suit-same v = rw (at.width, at.held, held-fixed (field fs i).is_bytes (field fs i) (spells v) free)

    pub write-check-same : (n : ℕ) (v : Value) → write_check_at p n v ≡ write_check fs n (write i v)
    unfolding write_check_at write_check
    write-check-same n v = rw (reach-same n (of_bytes v), here, suit-same v)
