-- What reading comes to. Which bytes a call of `read` brings no contract can say of the system's inputs; of a reader that says what it has left, it can. Assumes nothing.
use Rattle.std.specs.Prelude.{◌≡◌, ◌≤◌, ◌<◌, List, length, take, ℕ, zero, suc, Option, None, Some, IfSome, Result, Ok, Err}
use Rattle.std.specs.Io.KnownBytes.{Consumes, IsAtEnd}

-- what one call of read came to, by its answer: an error is that error, 0 is the end of the input, else so many bytes came
abbrev pub heard_of : {E : Type 0} → Result ℕ E → Result (Option ℕ) E
heard_of (Ok zero) = Ok None
heard_of (Ok (suc k)) = Ok (Some (suc k))
heard_of (Err e) = Err e

-- so many bytes stand at the front of the buffer; of a failure nothing is said
abbrev pub InFront : {E : Type 0} → Result ℕ E → List ℕ → Type 0
InFront (Ok n) buf = (n ≤ length buf) × (n ≡ length (take n buf))
InFront (Err e) buf = Unit {0}

-- where it is known what the input had left and has left now: the bytes at the front of the buffer are its next ones, and a buffer that is not full tells its end
abbrev pub IsTaken : {E : Type 0} → Option (List ℕ) → Option (List ℕ) → Result ℕ E → List ℕ → Type 0
IsTaken old new (Ok n) buf = Consumes old new (take n buf) × (n < length buf → IsAtEnd new)
IsTaken old new (Err e) buf = Unit {0}

-- where that is known: all of it was read, and as much of it as fits stands at the front of the buffer
abbrev pub IsReadOut : {E : Type 0} → Option (List ℕ) → Option (List ℕ) → Result ℕ E → List ℕ → Type 0
IsReadOut old new (Ok n) buf = IfSome old (λ xs. take n buf ≡ take (length buf) xs) × IsAtEnd new
IsReadOut old new (Err e) buf = Unit {0}
