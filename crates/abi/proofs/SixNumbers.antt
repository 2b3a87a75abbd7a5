-- Six numbers at which a field can stand are those of one locator: `locator-back`, `numbers-back`; zeros, which a refused call leaves, are none's: `zeros-no-locator`. Then the
-- buffer after a template. Assumes nothing.
use Rattle.answer.specs.declared.Refusal.{Refusal}
use mathlib.Core.Path.{◌≡◌, refl, sym, ap, ◌∙◌}
use mathlib.Core.Bool.{Bool, true, false, cond, ◌&&◌}
use mathlib.Core.List.{List, [], ◌∷◌}
use Rattle.std.specs.Prelude.{Option, None, Some, Result}
use Rattle.std.proofs.lemmas.Option.{same_Some}
use Prim.Native.Nat.{ℕ, ◌≤◌}
use native.Mathlib.Omega.{arith}
use lib.Dec.{eqb}
use lib.ListN.{length}
use borrow.Author.Tests.{eqb-true}
use Rattle.answer.specs.Paper.{gives, refused, Check}
use Rattle.answer.proofs.Chains.{never-given}
use Rattle.answer.proofs.Tests.{clash, both_hold}
use Rattle.answer.specs.Walk.{is_some}
use Rattle.sheet.specs.Blocks.{field_count}
use Rattle.layout.specs.Layout.{Filled, fill}
use Rattle.layout.specs.Access.{after}
use Rattle.layout.proofs.Filled.{template-only}
use Rattle.header.specs.Starts.{header_layout}
use Rattle.header.specs.Step.{header_bytes}
use Rattle.header.proofs.Starts.{layout-length}
use Rattle.definition.specs.Definition.{Accepted}
use Rattle.definition.proofs.Steps.{layout-whole, good-layout}
use Rattle.template.specs.Template.{template_check, TemplateBuilt}
use Rattle.template.proofs.Built.{room-is}
use Rattle.locator.specs.declared.Held.{Held}
use Rattle.locator.specs.declared.Locator.{Locator}
use Rattle.locator.specs.Locator.{is_locator, held_default}
use Rattle.locator.proofs.Reached.{no_bits}
use Rattle.abi.specs.Told.{zeros}
use Rattle.abi.specs.Numbers.{template_after, held_number, locator_numbers, held_from, locator_if, locator_from}

-- ---- six numbers, and the locator that they stand for

-- the numbers of a locator stand for it
held_back : (h : Held) → held_from (held_number h) (held_default h) ≡ Some h
unfolding held_from
held_back (Held.Number default true) = refl
held_back (Held.Number default false) = refl
held_back Held.Bytes = refl

pub locator-back : (p : Locator) → locator_from (locator_numbers p) ≡ p
locator-back p = ap (λ (h : Option Held). locator_if h (locator_numbers p)) (held_back p.held)

-- where six numbers stand for something held, they are its numbers
numbers-held : (held default : ℕ) {h : Held} → held_from held default ≡ Some h → (held_number h ≡ held) × (held_default h ≡ default)
unfolding held_from
numbers-held held default {h} = by_code (eqb held 0) (eqb held 1) (eqb held 2 && eqb default 0) refl refl refl
  where
    held-as : {k : Held} → Some k ≡ Some h → held_number k ≡ held → held_default k ≡ default → (held_number h ≡ held) × (held_default h ≡ default)
    held-as {k} is code same = let one = same_Some k h is in (rw one at code, rw one at same)

    by_code : (zero one two : Bool) → eqb held 0 ≡ zero → eqb held 1 ≡ one → (eqb held 2 && eqb default 0) ≡ two
        → cond zero (Some (Held.Number default false)) (cond one (Some (Held.Number default true)) (cond two (Some Held.Bytes) None)) ≡ Some h → (held_number h ≡ held) × (held_default h ≡ default)
    by_code true one two z o t is = held-as is (sym (eqb-true held 0 z)) refl
    by_code false true two z o t is = held-as is (sym (eqb-true held 1 o)) refl
    by_code false false true z o t is = let both = both_hold (eqb held 2) (eqb default 0) t in held-as is (sym (eqb-true held 2 both.0)) (sym (eqb-true default 0 both.1))
    by_code false false false z o t is = clash (ap is_some (sym is))

-- so six numbers at which a field can stand are the numbers of that locator: no field has two such sixes
pub numbers-back : (a b c d e f : ℕ) → let six = a ∷ b ∷ c ∷ d ∷ e ∷ f ∷ [] in is_locator (locator_from six) ≡ true → locator_numbers (locator_from six) ≡ six
numbers-back a b c d e f ok = by-held (held_from e f) refl ok
  where
    by-held : (h : Option Held) → held_from e f ≡ h → let six = a ∷ b ∷ c ∷ d ∷ e ∷ f ∷ [] in is_locator (locator_if h six) ≡ true → locator_numbers (locator_if h six) ≡ six
    by-held (Some h) is located = let same = numbers-held e f is in rw (same.0, same.1)
    by-held None is located = absurd (no_bits _ refl located)

-- what a refused call leaves is no locator
pub zeros-no-locator : is_locator (locator_from (zeros 6)) ≡ true → ⊥
unfolding held_from
zeros-no-locator = no_bits _ refl

-- ---- the template

only-fill : (s : List ℕ) → Accepted s → {b c : List ℕ} → header_bytes s ≤ length b → Filled (header_layout s) (field_count s) b c → c ≡ fill (header_layout s) b
only-fill s ok {b} {c} room filled = template-only (header_layout s) (good-layout s ok) b c (omega (arith, layout-whole s ok)) (rw (layout-length s) filled)

pub template-after : {s b c : List ℕ} {j : Result (Unit {0}) Refusal} → TemplateBuilt s b c j → c ≡ template_after s b
template-after {s} {b} {c} t = by_answer (template_check s (length b)) refl
  where
    by_answer : (x : Check) → template_check s (length b) ≡ x → c ≡ after x (fill (header_layout s) b) b
    by_answer (gives _) e = let room = (room-is s (length b)).0 e in only-fill s room.0 room.1 (t.filled (t.answer ∙ e))
    by_answer (refused g n at) e = t.untouched (never-given (t.answer ∙ e))
