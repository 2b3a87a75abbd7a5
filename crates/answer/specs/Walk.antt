-- Walks over indexes, and what may be missing. Assumes nothing.
use Rattle.std.specs.Prelude.{Bool, true, false, cond, ◌&&◌, ℕ, zero, suc}
use Rattle.std.specs.Prelude.{Option, None, Some}

-- the test holds at each of 0, 1, .., n - 1
unfoldable pub each : (ℕ → Bool) → ℕ → Bool
each test zero = true
each test (suc n) = each test n && test n

-- the one found first, or else the other
infixr 20 ◌or_else◌
abbrev pub ◌or_else◌ : {A : Type 0} → Option A → Option A → Option A
Some a or_else next = Some a
None or_else next = next

-- the first of 0, 1, .., n - 1 at which the test holds
unfoldable pub first_where : (ℕ → Bool) → ℕ → Option ℕ
first_where test zero = None
first_where test (suc n) = first_where test n or_else cond (test n) (Some n) None

-- whether there is one
abbrev pub is_some : {A : Type 0} → Option A → Bool
is_some (Some a) = true
is_some None = false

-- a number, and 0 where there is none
abbrev pub or_zero : Option ℕ → ℕ
or_zero (Some n) = n
or_zero None = 0
