-- Step 4 accepts exactly the sheets of `LengthsAre`: `lengths-are`. Of each check, from the single tests up to the whole step, it is said exactly when it
-- passes: of a field by the record `Serves`. Assumes nothing.
use mathlib.Core.Path.{◌≡◌, refl, sym, ap}
use mathlib.Core.Bool.{true, false}
use mathlib.Core.List.{List}
use mathlib.Core.Logic.{◌↔◌}
use Rattle.std.specs.Prelude.{Option, None, Some}
use Rattle.std.proofs.lemmas.Option.{none-some}
use Prim.Native.Nat.{ℕ, ◌-◌, ◌^◌, ◌≤◌, ◌<◌}
use native.Mathlib.Omega.{arith}
use borrow.Author.Tests.{eqb-false}
use Rattle.answer.specs.Paper.{Check, accepted, ◌and_then◌, first}
use Rattle.answer.proofs.Chains.{and_then-assoc, both_is, refuse-is, never-given, each-is}
use Rattle.answer.proofs.Tests.{clash, fails-is, and_is, unless-is, neither-is, not_is, eqb_is, ltb-is-not}
use Rattle.answer.specs.Walk.{is_some, or_zero}
use Rattle.answer.proofs.Walk.{else_is, there-is, any-is}
use Rattle.number.specs.Numbers.{max_bytes, max_value}
use Rattle.number.proofs.Limits.{max-is}
use Rattle.sheet.specs.Blocks.{block_at}
use Rattle.types.specs.declared.BuiltinTypes.{BuiltinTypes}
use Rattle.types.specs.declared.Arg.{Arg}
use Rattle.types.specs.Types.{type_code}
use Rattle.types.proofs.CodesAndNames.{code_one, slice_is}
use Rattle.field.specs.declared.DefaultVal.{DefaultVal}
use Rattle.field.specs.declared.Field.{Field}
use Rattle.field.specs.Sound.{width_of}
use Rattle.expr.specs.declared.UsableAlgExpr.{UsableAlgExpr}
use Rattle.expr.specs.Forms.{◌then◌, forward}
use Rattle.expr.proofs.WayBack.{then_is}
use Rattle.slots.specs.Slots.{expr_in, held, held_by, block_of_slot, no_form}
use Rattle.slots.proofs.Expresses.{tree-expresses, expresses-is}
use Rattle.length.specs.Named.{field_of_block}
use Rattle.length.specs.Step.{largest, number_default, of_default, arg_not_the_repr, is_over, is_under, length_field_fault, length_fault, expr_fault, held_fault, slot_check, length_check}
use Rattle.length.specs.LengthsAre.{Serves, LengthsAre}

-- ---- single tests

-- length 6: the arg is the repr, which is no byte slice
pub arg_is : (repr : BuiltinTypes) (arg : Arg) → (arg_not_the_repr repr arg ≡ false) ↔ ((arg ≡ Arg.BuiltinTypes repr) × (repr ≡ BuiltinTypes.ByteSlice → ⊥))
arg_is repr (Arg.BuiltinTypes t) = simp (neither-is, not_is, eqb_is, slice_is)
    (λ p. (ap Arg.BuiltinTypes (code_one t repr p.0), p.1), λ p. (let same : t ≡ repr = cc in ap type_code same, p.1))
arg_is repr Arg.Code = (λ e. clash e, λ p. cc)

-- length 1: there is one
some_is : (o : Option ℕ) → (is_some o ≡ true) ↔ ((n : ℕ) × (o ≡ Some n))
some_is (Some n) = (λ _. (n, refl), λ _. refl)
some_is None = (λ e. clash (sym e), λ p. cc)

-- length 12: there is an expression
form-is : (o : Option UsableAlgExpr) → (no_form o ≡ false) ↔ ((e : UsableAlgExpr) × (o ≡ Some e))
form-is (Some e) = (λ _. (e, refl), λ _. refl)
form-is None = (λ e. clash e, λ p. cc)

-- length 8 and 9: a length that can be worked out, and is not over; 13 and 10: one that is not under
over-is : (o : Option ℕ) (most : ℕ) → ((is_some o ≡ true) × (is_over o most ≡ false)) ↔ ((n : ℕ) × (o ≡ Some n) × (n ≤ most))
over-is o most =
    there-is (λ l. (is_some l ≡ true) × (is_over l most ≡ false)) (λ n. n ≤ most) (λ n. simp ltb-is-not (λ p. p.1, λ h. (refl, h))) (λ p. clash (sym p.0)) o

under-is : (o : Option ℕ) (least : ℕ) → ((is_some o ≡ true) × (is_under o least ≡ false)) ↔ ((n : ℕ) × (o ≡ Some n) × (least ≤ n))
under-is o least =
    there-is (λ l. (is_some l ≡ true) × (is_under l least ≡ false)) (λ n. least ≤ n) (λ n. simp ltb-is-not (λ p. p.1, λ h. (refl, h))) (λ p. clash (sym p.0)) o

-- the largest value is 2 ^ width - 1, of a width of 1 to 64
pub largest-is : (e : UsableAlgExpr) (f : Field) (most : ℕ) → (largest e f ≡ Some most)
    ↔ ((1 ≤ width_of f) × (width_of f ≤ 64) × (forward e (2 ^ width_of f - 1) ≡ Some most))
unfolding max_value
largest-is e f most = (
  λ q.
      let top = (then_is (max_value (width_of f)) (forward e) most).0 q in
      let fits = simp (else_is, neither-is, ltb-is-not) at top.1 in
      let same : 2 ^ width_of f - 1 ≡ top.0 = let value = fits.1 in cc in
      (omega (arith, eqb-false (width_of f) 0 fits.0.0), fits.0.1, rw same top.2),
  λ p. rw (max-is (width_of f) (λ z. omega arith) p.1) p.2,
)

-- and the default is a number
default-is : (e : UsableAlgExpr) (d : DefaultVal) (usual : ℕ) → ((number_default d then forward e) ≡ Some usual) ↔ ((x : ℕ) × (d ≡ DefaultVal.Num x) × (forward e x ≡ Some usual))
default-is e (DefaultVal.Num x) usual = (λ q. (x, refl, q), λ p. let same : x ≡ p.0 = cc in rw same p.2)
default-is e (DefaultVal.Bool b) usual = (λ q. absurd (none-some usual q), λ p. cc)
default-is e (DefaultVal.Bytes s) usual = (λ q. absurd (none-some usual q), λ p. cc)

enough-is : (e : UsableAlgExpr) (f : Field) (least : ℕ) → ((is_some (of_default e f) ≡ true) × (is_under (of_default e f) least ≡ false))
    ↔ ((x usual : ℕ) × (f.default ≡ DefaultVal.Num x) × (forward e x ≡ Some usual) × (least ≤ usual))
enough-is e f least =
    let under = under-is (of_default e f) least in (
      λ p. let u = under.0 p in let d = (default-is e f.default u.0).0 u.1 in (d.0, u.0, d.1, d.2, u.2),
      λ q. under.1 (q.1, (default-is e f.default q.1).1 (q.0, q.2, q.3), q.4),
    )

-- ---- a field and its slot

module _ (header slot : ℕ) where
  -- a field passes its tests exactly where it serves the expression
  serves-is : (at : ℕ) (e : UsableAlgExpr) (f : Field) → (expr_fault header slot at e (Some f) ≡ accepted) ↔ Serves header slot e f
  unfolding length_field_fault length_fault
  serves-is at e f =
      let top = over-is (largest e f) max_bytes in
      let usual = enough-is e f header in
      simp (both_is, refuse-is, ltb-is-not, arg_is, unless-is, not_is, eqb_is) (
        λ p.
            let most = top.0 (p.1.0, p.1.1.0) in
            let longest = (largest-is e f most.0).0 most.1 in
            record {
              some_bits = longest.0;
              narrow = longest.1;
              not-generated = p.0.1.0;
              same-type = p.0.1.1.0.0;
              no-slice = p.0.1.1.0.1;
              fixed-header = p.0.1.1.1;
              most = most.0;
              most-is = longest.2;
              most-allowed = most.2;
              enough = λ z. usual.0 (p.1.1.1.0 z, p.1.1.1.1 z);
            },
        λ u.
            let most = top.1 (u.most, (largest-is e f u.most).1 (u.some_bits, u.narrow, u.most-is), u.most-allowed) in (
              (u.narrow, (u.not-generated, ((u.same-type, u.no-slice), u.fixed-header))),
              (most.0, (most.1, (λ z. (usual.1 (u.enough z)).0, λ z. (usual.1 (u.enough z)).1))),
            ),
      )

  module _ (s : List ℕ) where
    -- a block passes exactly where the expression in it, if there is one, names a field that serves it
    block-is : (at : ℕ) (x : Option UsableAlgExpr) → (held_fault s header slot at (held x) ≡ accepted)
        ↔ ((e : UsableAlgExpr) → x ≡ Some e → (f : Field) × (field_of_block s at ≡ Some f) × Serves header slot e f)
    block-is at = any-is _ _ (λ e. there-is (λ o. expr_fault header slot at e o ≡ accepted) _ (serves-is at e) (never-given refl) (field_of_block s at)) refl

    -- and a slot exactly where its block does, if there is one
    slot_is : (slot_check s header slot ≡ accepted) ↔ ((at : ℕ) → block_of_slot s slot ≡ Some at → (e : UsableAlgExpr) → expr_in (block_at s at) ≡ Some e
        → (f : Field) × (field_of_block s at ≡ Some f) × Serves header slot e f)
    slot_is = any-is (λ o. held_fault s header slot (or_zero o) (held_by s o) ≡ accepted) _ (λ at. block-is at (expr_in (block_at s at))) refl (block_of_slot s slot)

-- ---- the step

-- three checks in order pass exactly where each of the three does
three-are : (f : ℕ → Check) → ((f 0 and_then f 1 and_then f 2) ≡ accepted) ↔ ((i : ℕ) → i < 3 → f i ≡ accepted)
unfolding first
three-are f = rw (← (and_then-assoc (f 0) (f 1) (f 2))) (each-is f 3)

pub lengths-are : (s : List ℕ) (header : ℕ) → (length_check s header ≡ accepted) ↔ LengthsAre s header
unfolding length_check
lengths-are s header =
    simp (three-are (slot_check s header), both_is, refuse-is, each-is, unless-is, and_is, eqb_is, form-is, fails-is (is_some (block_of_slot s 2)), some_is, slot_is) (
      λ p.
          record {
            forms = λ i l kind six.
                let x = p.0 i l (kind, six) in
                let f = (tree-expresses (block_at s i) x.0 six).0 x.1 in
                (f.0, x.0, f.1, f.2);
            one_of_two = λ i j q r. p.1.0 (i, q) (j, r);
            used = λ slot at h q e x. p.1.1 slot h at q e ((expresses-is (block_at s at) e).1 x);
          },
      λ l. (
        λ i h tree. let f = l.forms i h tree.0 tree.1 in (f.1, (tree-expresses (block_at s i) f.1 tree.1).1 (f.0, f.2, f.3)),
        (λ q r. l.one_of_two q.0 r.0 q.1 r.1, λ slot h at q e x. l.used slot at h q e ((expresses-is (block_at s at) e).0 x)),
      ),
    )
