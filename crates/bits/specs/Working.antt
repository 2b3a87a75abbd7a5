-- How the program puts a number into the 8 bytes that hold its run, and when it can: its own working, which contracts of private functions cite. No statement
-- rests on it. Assumes nothing.
use Rattle.std.specs.Prelude.{ℕ, ◌+◌, ◌*◌, ◌/◌, ◌%◌, ◌^◌, ◌≤◌}
use Rattle.bits.specs.declared.Run.{Run}
use Rattle.bits.specs.Positions.{global_of}

-- x with v in the w bits that have r bits below them
abbrev pub pasted : ℕ → ℕ → ℕ → ℕ → ℕ
pasted x w r v = (x / 2 ^ r / 2 ^ w * 2 ^ w + v) * 2 ^ r + x % 2 ^ r

-- the run touches at most 8 bytes, and ends in the first n
pub record FitsIn (n : ℕ) (run : Run) : Type 0 where
  pub narrow : global_of run.start % 8 + run.width.0 ≤ 64
  pub inside : global_of run.start + run.width.0 ≤ 8 * n
