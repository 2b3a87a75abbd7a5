-- What is told fixes the answer: whether it was no refusal, its numbers, and the refusal's (`told-one`, `found-one`). Then: what is told of an answer in numbers is told of the
-- answer. Assumes nothing.
use mathlib.Core.Path.{◌≡◌, sym, ◌∙◌}
use mathlib.Core.Bool.{Bool}
use mathlib.Core.List.{List}
use Rattle.std.specs.Prelude.{Option}
use Prim.Native.Nat.{ℕ}
use Rattle.answer.specs.declared.Group.{Group}
use Rattle.answer.specs.Paper.{Answer, gives, refused}
use Rattle.abi.specs.Told.{Answered, Told, answer_in, Found}

-- ---- one answer

pub answered-one : {A : Type 0} {answer : Answer A} {why c d : List ℕ} {q r : Bool} → Answered answer why c q → Answered answer why d r → (q ≡ r) × (c ≡ d)
answered-one x y = (x.given ∙ sym y.given, x.told ∙ sym y.told)

pub told-one : {A X : Type 0} {none_told : X} {numbers : A → X} {answer : Answer A} {x y : X} {why c d : List ℕ} {q r : Bool} → Told none_told numbers answer x why c q
    → Told none_told numbers answer y why d r → (q ≡ r) × (x ≡ y) × (c ≡ d)
told-one t u = let same = answered-one t.answered u.answered in (same.0, t.told ∙ sym u.told, same.1)

pub found-one : {number : Option ℕ} {c d : List ℕ} {q r : Bool} → Found number c q → Found number d r → (q ≡ r) × (c ≡ d)
found-one x y = (x.there ∙ sym y.there, x.told ∙ sym y.told)

-- ---- what is told of an answer in numbers is told of the answer

module _ {A : Type 0} {z x why why' : List ℕ} {t : Bool} (numbers : A → List ℕ) where
  pub told_in : (answer : Answer A) → Told z (λ l. l) (answer_in numbers answer) x why why' t → Told z numbers answer x why why' t
  told_in (gives a) h = record { answered = record { given = h.answered.given; told = h.answered.told }; told = h.told }
  told_in (refused g n at) h = record { answered = record { given = h.answered.given; told = h.answered.told }; told = h.told }

  pub told_refused : {answer : Answer A} {g : Group} {n at : ℕ} → answer ≡ refused g n at → Told z (λ l. l) (refused g n at) x why why' t → Told z numbers answer x why why' t
  told_refused e h = rw e (told_in (refused _ _ _) h)
