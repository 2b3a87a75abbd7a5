-- The five forms of a length expression: a field's value forward to a length, and a length back to the value. Assumes nothing.
use Rattle.std.specs.Prelude.{◌≡◌, Bool, true, cond, not, ◌↔◌, ℕ, ◌+◌, ◌-◌, ◌*◌, ◌/◌, ◌%◌, ◌^◌, ltb, eqb, Option, None, Some}
use Rattle.number.specs.declared.Bytes.{Bytes}
use Rattle.expr.specs.declared.UsableAlgExpr.{UsableAlgExpr}

-- ---- forward

-- a step's number, and none where it passes 2^64 - 1
unfoldable pub in64_bits : ℕ → Option ℕ
in64_bits n = cond (ltb n (2 ^ 64)) (Some n) None

-- one step after another: none where the first gives none
infixl 20 ◌then◌
abbrev pub ◌then◌ : Option ℕ → (ℕ → Option ℕ) → Option ℕ
Some n then step = step n
None then step = None

abbrev pub plus : ℕ → ℕ → Option ℕ
plus a n = in64_bits (n + a)

abbrev pub times : ℕ → ℕ → Option ℕ
times m n = in64_bits (n * m)

-- x; x + a; x * m; (x + a) * m; x * m + a
abbrev pub forward : UsableAlgExpr → ℕ → Option ℕ
forward UsableAlgExpr.IdentOnly x = Some x
forward (UsableAlgExpr.SimpleAdd a) x = plus a x
forward (UsableAlgExpr.SimpleMult m) x = times m x
forward (UsableAlgExpr.AddMult a m) x = plus a x then times m
forward (UsableAlgExpr.MultAdd m a) x = times m x then plus a

-- ---- back

-- no multiplier is 0
abbrev pub no_zero : UsableAlgExpr → Bool
no_zero UsableAlgExpr.IdentOnly = true
no_zero (UsableAlgExpr.SimpleAdd a) = true
no_zero (UsableAlgExpr.SimpleMult m) = not (eqb m 0)
no_zero (UsableAlgExpr.AddMult a m) = not (eqb m 0)
no_zero (UsableAlgExpr.MultAdd m a) = not (eqb m 0)

-- r is what y gives back: x exactly when x forward is y and no multiplier is 0
abbrev pub Back : UsableAlgExpr → ℕ → Option ℕ → Type 0
Back e y r = (x : ℕ) → (r ≡ Some x) ↔ ((forward e x ≡ Some y) × (no_zero e ≡ true))

-- the same worked out: the steps undone, the last one first
unfoldable pub less : ℕ → ℕ → Option ℕ
less a n = cond (ltb n a) None (Some (n - a))

unfoldable pub over : ℕ → ℕ → Option ℕ
over m n = cond (eqb m 0) None (cond (eqb (n % m) 0) (Some (n / m)) None)

abbrev pub back : UsableAlgExpr → ℕ → Option ℕ
back UsableAlgExpr.IdentOnly y = Some y
back (UsableAlgExpr.SimpleAdd a) y = less a y
back (UsableAlgExpr.SimpleMult m) y = over m y
back (UsableAlgExpr.AddMult a m) y = over m y then less a
back (UsableAlgExpr.MultAdd m a) y = less a y then over m

-- ---- a form by its number (1 to 5), and its numbers in the order in which a sheet gives them; 0 for one that it lacks

abbrev pub form_number : UsableAlgExpr → ℕ
form_number UsableAlgExpr.IdentOnly = 1
form_number (UsableAlgExpr.SimpleAdd a) = 2
form_number (UsableAlgExpr.SimpleMult m) = 3
form_number (UsableAlgExpr.AddMult a m) = 4
form_number (UsableAlgExpr.MultAdd m a) = 5

abbrev pub first_in : UsableAlgExpr → ℕ
first_in UsableAlgExpr.IdentOnly = 0
first_in (UsableAlgExpr.SimpleAdd a) = a
first_in (UsableAlgExpr.SimpleMult m) = m
first_in (UsableAlgExpr.AddMult a m) = a
first_in (UsableAlgExpr.MultAdd m a) = m

abbrev pub second_in : UsableAlgExpr → ℕ
second_in UsableAlgExpr.IdentOnly = 0
second_in (UsableAlgExpr.SimpleAdd a) = 0
second_in (UsableAlgExpr.SimpleMult m) = 0
second_in (UsableAlgExpr.AddMult a m) = m
second_in (UsableAlgExpr.MultAdd m a) = a

-- the form of a number, with two numbers in that order; any other number is none
unfoldable pub form_of : ℕ → ℕ → ℕ → Option UsableAlgExpr
form_of number first second =
    cond (eqb number 1) (Some UsableAlgExpr.IdentOnly)
    (cond (eqb number 2) (Some (UsableAlgExpr.SimpleAdd first))
    (cond (eqb number 3) (Some (UsableAlgExpr.SimpleMult first))
    (cond (eqb number 4) (Some (UsableAlgExpr.AddMult first second))
    (cond (eqb number 5) (Some (UsableAlgExpr.MultAdd first second)) None))))

-- ---- the number of a length that is there

abbrev pub length_says : Option Bytes → Option ℕ
length_says (Some n) = Some n.0
length_says None = None
