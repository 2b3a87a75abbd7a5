-- The contract of the template by its cases: a step refused, no room, room; and it allows one answer and one buffer after it. Assumes nothing.
use Rattle.std.specs.Prelude.{Result, Ok, Err}
use mathlib.Core.Path.{◌≡◌, refl, sym, ◌∙◌}
use mathlib.Core.List.{List}
use mathlib.Core.Logic.Iff
use mathlib.Core.Logic.{◌↔◌}
use Prim.Native.Nat.{ℕ, ◌≤◌, ◌<◌}
use lib.ListN.{length}
use borrow.Author.Tests.{lt-ltb}
use Rattle.answer.specs.declared.Group.{Group}
use Rattle.answer.specs.declared.Refusal.{Refusal}
use Rattle.answer.specs.Paper.{Check, gives, refused, accepted, says, refusal_says}
use Rattle.answer.proofs.Chains.{stand, both_is, refuse-is, never-given}
use Rattle.answer.proofs.Tests.{ltb-is-not}
use Rattle.answer.proofs.OneToOne.{says-one}
use Rattle.sheet.specs.Blocks.{block_count, field_count}
use Rattle.layout.specs.Layout.{Filled}
use Rattle.layout.proofs.Filled.{filled-one}
use Rattle.header.specs.Starts.{header_layout}
use Rattle.header.specs.Step.{header_bytes}
use Rattle.definition.specs.Definition.{definition_check, Accepted}
use Rattle.template.specs.Template.{template_check, TemplateBuilt}

-- ---- what is answered

module _ (s : List ℕ) where
  steps-refuse : (n : ℕ) {g : Group} {k at : ℕ} → definition_check s ≡ refused g k at → template_check s n ≡ refused g k at
  unfolding template_check
  steps-refuse n e = stand _ e

  no_room : (n : ℕ) → definition_check s ≡ accepted → n < header_bytes s → template_check s n ≡ refused Group.Room 1 (block_count s)
  unfolding template_check
  no_room n e h = rw (e, lt-ltb n (header_bytes s) h)

  -- it is accepted exactly where the sheet is and the buffer is long enough
  pub room-is : (n : ℕ) → (template_check s n ≡ accepted) ↔ (Accepted s × (header_bytes s ≤ n))
  unfolding template_check
  room-is n = simp (both_is, refuse-is, ltb-is-not) Iff.rfl

-- ---- the contract

-- a refusal, with nothing changed
refusing : (s b : List ℕ) (r : Refusal) → refusal_says r ≡ template_check s (length b) → TemplateBuilt s b b (Err r)
refusing s b r e = record { answer = e; filled = λ a. absurd (never-given refl a); untouched = λ _. refl }

module _ (s b : List ℕ) where
  pub built-refused : (r : Refusal) → definition_check s ≡ refusal_says r → TemplateBuilt s b b (Err r)
  built-refused r e = refusing s b r (sym (steps-refuse s (length b) e))

  pub built-no-room : (r : Refusal) → refusal_says {A = Unit {0}} r ≡ refused Group.Room 1 (block_count s) → definition_check s ≡ accepted → length b < header_bytes s → TemplateBuilt s b b (Err r)
  built-no-room r is ok h = refusing s b r (is ∙ sym (no_room s (length b) ok h))

  pub built : (c : List ℕ) → definition_check s ≡ accepted → header_bytes s ≤ length b → Filled (header_layout s) (field_count s) b c → TemplateBuilt s b c (Ok tt)
  built c ok h f = record { answer = sym ((room-is s (length b)).1 (ok, h)); filled = λ _. f; untouched = λ n. absurd (n refl) }

-- ---- one answer, and one buffer after it

pub built-one : {s b c d : List ℕ} {q r : Result (Unit {0}) Refusal} → TemplateBuilt s b c q → TemplateBuilt s b d r → (q ≡ r) × (c ≡ d)
built-one {c = c} {d} {q} {r} x y = (says-one q r same, buffers (says q) refl)
  where
    same : says q ≡ says r
    same = x.answer ∙ sym y.answer

    buffers : (p : Check) → says q ≡ p → c ≡ d
    buffers (gives _) e = filled-one (x.filled e) (y.filled (sym same ∙ e))
    buffers (refused g n at) e = x.untouched (never-given e) ∙ sym (y.untouched (never-given (sym same ∙ e)))
