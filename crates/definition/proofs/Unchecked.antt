-- What a sheet says, as the program finds it; of an accepted sheet, that every index below the count has an answer; and that answers which say the
-- same are the same. Assumes nothing.
use mathlib.Core.Path.{◌≡◌, refl, sym, ap, ◌∙◌}
use mathlib.Core.Bool.{Bool, true, false, cond, ◌&&◌}
use mathlib.Core.List.{List}
use Rattle.std.specs.Prelude.{Option, None, Some}
use Prim.Native.Nat.{ℕ, ◌≤◌, ◌<◌}
use native.Mathlib.Omega.{arith}
use lib.Dec.{ltb}
use borrow.Author.Tests.{lt-ltb, le-ltb}
use Rattle.bits.specs.declared.BitPos.{BitPos}
use Rattle.bits.specs.Positions.{global_of}
use Rattle.bits.proofs.Positions.{position-one}
use Rattle.sheet.specs.Blocks.{field_count}
use Rattle.sheet.proofs.SheetIs.{in_order}
use Rattle.field.specs.declared.Field.{Field}
use Rattle.field_blocks.specs.Step.{field_at}
use Rattle.header.specs.Starts.{start_at, start_of, field_start_says}
use Rattle.expr.proofs.WayBack.{length-one}
use Rattle.definition.specs.declared.LengthSlot.{LengthSlot}
use Rattle.definition.specs.Definition.{Accepted}
use Rattle.definition.specs.Unchecked.{field_with_start, LengthSlotOf, field_with_start_says}
use Rattle.definition.proofs.Steps.{five-steps}

-- ---- a field is where its start is

module _ (s : List ℕ) (i : ℕ) {n : Option BitPos} where
  pub field-at : {p : BitPos} {f : Field} → n ≡ Some p → field_start_says n ≡ start_of s i → f ≡ field_at s i → ◌≡◌ {A = Option (Field × ℕ)} (Some (f, global_of p)) (field_with_start s i)
  unfolding start_of field_with_start
  field-at {p} {f} is e same = by-test (ltb i 64 && ltb i (field_count s)) (sym (ap field_start_says is) ∙ e)
    where
      by-test : (there : Bool) → Some (global_of p) ≡ cond there (Some (start_at s i)) None
          → ◌≡◌ {A = Option (Field × ℕ)} (Some (f, global_of p)) (cond there (Some (field_at s i, start_at s i)) None)
      by-test true q = cc
      by-test false q = cc

  pub field-none : n ≡ None → field_start_says n ≡ start_of s i → None ≡ field_with_start s i
  unfolding start_of field_with_start
  field-none is e = by-test (ltb i 64 && ltb i (field_count s)) (sym (ap field_start_says is) ∙ e)
    where
      by-test : (there : Bool) → None ≡ cond there (Some (start_at s i)) None → ◌≡◌ {A = Option (Field × ℕ)} None (cond there (Some (field_at s i, start_at s i)) None)
      by-test true q = cc
      by-test false q = refl

-- ---- of an accepted sheet, every field that it has and no other

module _ (s : List ℕ) (i : ℕ) where
  pub field-given : Accepted s → i < field_count s → ◌≡◌ {A = Option (Field × ℕ)} (field_with_start s i) (Some (field_at s i, start_at s i))
  unfolding field_with_start
  field-given ok h = rw (lt-ltb i 64 (omega (arith, (in_order s (five-steps s ok).sheet).most-fields)), lt-ltb i (field_count s) h)

  pub no_field : field_count s ≤ i → field_with_start s i ≡ None
  unfolding field_with_start
  no_field h = rw (le-ltb i (field_count s) h) (neither (ltb i 64))
    where
      neither : (a : Bool) → ◌≡◌ {A = Option (Field × ℕ)} (cond (a && false) (Some (field_at s i, start_at s i)) None) None
      neither true = refl
      neither false = refl

-- ---- one answer

pub field-with-start-one : (q r : Option (Field × BitPos)) → field_with_start_says q ≡ field_with_start_says r → q ≡ r
field-with-start-one (Some (f, p)) (Some (g, q)) e =
    let same : ◌≡◌ {A = Field × ℕ} (f, global_of p) (g, global_of q) = cc in
    let same-field : f ≡ g = ap (λ (x : Field × ℕ). x.0) same in
    let same_start : p ≡ q = position-one p q (ap (λ (x : Field × ℕ). x.1) same) in
    cc
field-with-start-one (Some (f, p)) None e = cc
field-with-start-one None (Some (g, q)) e = cc
field-with-start-one None None e = refl

pub slot-one : {s : List ℕ} {slot : ℕ} (q r : LengthSlot) → LengthSlotOf s slot q → LengthSlotOf s slot r → q ≡ r
slot-one q r x y =
    let same-held : q.held ≡ r.held = x.held ∙ sym y.held in
    let same_place : q.at ≡ r.at = x.place ∙ sym y.place in
    let same-most : q.largest ≡ r.largest = length-one q.largest r.largest (x.most ∙ sym y.most) in
    rw (same-held, same_place, same-most)
