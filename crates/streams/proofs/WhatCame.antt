-- What one read came to tells what it answered: so many bytes were heard of where it answered so many. Assumes nothing.
use Rattle.std.proofs.Common.{◌≡◌, ℕ, Option, Some, None, Result, Ok, Err, refl, sym, ap, ◌∙◌}
use Prim.Native.Nat.{zero, suc}
use Rattle.streams.specs.Streams.{heard_of}

abbrev read_of : {E : Type 0} → Result (Option ℕ) E → Result ℕ E
read_of (Ok None) = Ok 0
read_of (Ok (Some n)) = Ok n
read_of (Err e) = Err e

heard-back : {E : Type 0} (r : Result ℕ E) → read_of (heard_of r) ≡ r
heard-back (Ok zero) = refl
heard-back (Ok (suc k)) = refl
heard-back (Err e) = refl

pub heard-came : {E : Type 0} (r : Result ℕ E) (n : ℕ) → heard_of r ≡ Ok (Some n) → r ≡ Ok n
heard-came r n is = sym (heard-back r) ∙ ap read_of is
