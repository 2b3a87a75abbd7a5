-- The status that a program ends with. Assumes nothing.
use Rattle.std.specs.Prelude.{ℕ, Result, Ok, Err}

-- that of one that wrote its output, or could not
abbrev pub status_of : {A E : Type 0} → Result A E → ℕ
status_of (Ok a) = 0
status_of (Err e) = 1
