-- Answers as stored files have them. Assumes nothing.
use Rattle.std.specs.Prelude.{cond, ◌&&◌, List, ℕ, eqb, Result, Ok, Err}
use Rattle.answer.specs.declared.Refusal.{Refusal}
use Rattle.answer.specs.Paper.{group_of, number_of, place_of, group_number}
use Rattle.octets.specs.Octets.{byte}
use Rattle.packed.specs.declared.stored.Stored.{Stored}

-- a refusal by the numbers of its group and reason, and its place
abbrev pub stored_refusal : Refusal → Stored
stored_refusal r = record { group = group_number (group_of r); number = number_of r; place = place_of r }

-- three bytes: zeros for accepted, else a refusal
abbrev pub stored_answer : List ℕ → Result (Unit {0}) Stored
stored_answer b =
    cond (eqb (byte b 0) 0 && eqb (byte b 1) 0 && eqb (byte b 2) 0) (Ok tt) (Err (record { group = byte b 0; number = byte b 1; place = byte b 2 }))
