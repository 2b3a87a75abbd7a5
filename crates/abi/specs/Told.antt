-- How the boundary hands an answer out: whether there was no refusal, the answer in numbers, and the refusal in three. Assumes nothing.
use Rattle.std.specs.Prelude.{◌≡◌, Bool, List, [], ◌∷◌, ◌++◌, ℕ, zero, suc, ◌-◌, replicate}
use Rattle.std.specs.Prelude.{Option, None, Some}
use Rattle.answer.specs.Paper.{Answer, gives, refused, is_given, group_number}
use Rattle.answer.specs.Walk.{is_some}

-- ---- the refusal: its group, its number and its place. Where there is none, what was there stays

abbrev pub why_after : {A : Type 0} → Answer A → List ℕ → List ℕ
why_after (gives a) why = why
why_after (refused g n at) why = group_number g ∷ n ∷ at ∷ []

-- r says whether an answer is no refusal, and what stood where a refusal goes, why, is why' after it
pub record Answered {A : Type 0} (answer : Answer A) (why why' : List ℕ) (r : Bool) : Type 0 where
  pub given : r ≡ is_given answer
  pub told : why' ≡ why_after answer why

-- ---- the answer: what is told of a value; zeros where there is none

abbrev pub zeros : ℕ → List ℕ
zeros n = replicate n 0

abbrev pub told_or : {A X : Type 0} → X → (A → X) → Answer A → X
told_or none_told numbers (gives a) = numbers a
told_or none_told numbers (refused g n at) = none_told

-- the same as an answer
abbrev pub answer_in : {A X : Type 0} → (A → X) → Answer A → Answer X
answer_in numbers (gives a) = gives (numbers a)
answer_in numbers (refused g n at) = refused g n at

-- and so it is told: x where an answer goes, and the refusal beside it
pub record Told {A X : Type 0} (none_told : X) (numbers : A → X) (answer : Answer A) (x : X) (why why' : List ℕ) (r : Bool) : Type 0 where
  pub answered : Answered answer why why' r
  pub told : x ≡ told_or none_told numbers answer

-- ---- a number where there is one, else 0

abbrev pub number_or : Option ℕ → List ℕ
number_or (Some n) = n ∷ []
number_or None = 0 ∷ []

-- r says whether there is one, and b is what stands where it goes
pub record Found (number : Option ℕ) (b : List ℕ) (r : Bool) : Type 0 where
  pub there : r ≡ is_some number
  pub told : b ≡ number_or number

-- ---- rows of as many numbers each

-- the first n rows of a table
unfoldable pub first_rows : {A : Type 0} → (ℕ → A) → ℕ → List A
first_rows row zero = []
first_rows row (suc n) = first_rows row n ++ (row n ∷ [])

-- and empty ones after them, up to `size` in all
unfoldable pub rows : {A : Type 0} → A → ℕ → (ℕ → A) → ℕ → List A
rows empty size row n = first_rows row n ++ replicate (size - n) empty
