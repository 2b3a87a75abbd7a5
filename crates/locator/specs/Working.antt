-- What is asked beside the run, and what its faults are to the field: the program's own working, which contracts of private functions cite. No statement rests on
-- it. Assumes nothing.
use Rattle.std.specs.Prelude.{Bool, not, ◌&&◌, ◌||◌, ℕ, ltb, eqb, Result, Ok, Err}
use Rattle.answer.specs.declared.AccessFault.{AccessFault}
use Rattle.answer.specs.declared.Refusal.{Refusal}
use Rattle.number.specs.Numbers.{max_bytes}
use Rattle.bits.specs.declared.RunFault.{RunFault}
use Rattle.locator.specs.declared.Locator.{Locator}
use Rattle.locator.specs.Locator.{locator_header, first_bit, locator_width, is_number_of, is_bytes_of, held_default, held_fixed}

-- the header is over the limit, or what is held is no number of the width
abbrev pub holds_no_number : Locator → Bool
holds_no_number p = ltb max_bytes (locator_header p) || not (is_number_of p.held (locator_width p))

-- or no bytes that can be there
abbrev pub holds_no_bytes : Locator → Bool
holds_no_bytes p = ltb max_bytes (locator_header p) || not (is_bytes_of p.held (first_bit p) (locator_width p))

-- or it is fixed to another number than v
abbrev pub bars_number : Locator → ℕ → Bool
bars_number p v = holds_no_number p || (held_fixed p.held && not (eqb v (held_default p.held)))

-- a run that cannot be a field's is none, and one in a short buffer is a field's
abbrev pub access_fault : RunFault → AccessFault
access_fault RunFault.TooWide = AccessFault.NoSuchField
access_fault RunFault.Outside = AccessFault.NoSuchField
access_fault RunFault.Short = AccessFault.BufferUnderHeader
access_fault RunFault.TooLarge = AccessFault.ValueNotTheWidth

-- what is answered of the run, of field i
abbrev pub at_field : {T : Type 0} → ℕ → Result T RunFault → Result T Refusal
at_field i (Ok x) = Ok x
at_field i (Err fault) = Err (Refusal.Access (access_fault fault) i)
