-- Exactly when a write, a read and the template are accepted, on any bytes as a sheet and said without the tests: the sheet is accepted, and the rules allow
-- it. `proofs/Exactly.antt` shows it of all bytes. Assumes nothing.
use Rattle.std.specs.Prelude.{◌≡◌, Bool, List, ◌↔◌, ℕ, ◌≤◌, length}
use Rattle.answer.specs.Paper.{gives, accepted}
use Rattle.layout.specs.Access.{Value, Write}
use Rattle.header.specs.Step.{header_bytes}
use Rattle.definition.specs.Definition.{Accepted}
use Rattle.template.specs.Template.{template_check}
use Rattle.access.specs.Access.{sheet_reach, sheet_read, sheet_write_check}
use Rattle.laws.specs.Fields.{SheetAllowed, SheetReachable}

pub record Exactly (s : List ℕ) : Type 0 where
  -- a write, to a buffer of n bytes
  pub writes_are : (n : ℕ) (w : Write) → (sheet_write_check s n w ≡ accepted) ↔ (Accepted s × SheetAllowed s n w)
  -- a read, and the question whether there is one
  pub reads-are : (b : List ℕ) (as_bytes : Bool) (i : ℕ) → ((v : Value) × (sheet_read s b as_bytes i ≡ gives v)) ↔ (Accepted s × SheetReachable s (length b) as_bytes i)
  pub reaches-are : (n : ℕ) (as_bytes : Bool) (i : ℕ) → (sheet_reach s n as_bytes i ≡ accepted) ↔ (Accepted s × SheetReachable s n as_bytes i)
  -- the template, in a buffer of n bytes
  pub template-is : (n : ℕ) → (template_check s n ≡ accepted) ↔ (Accepted s × (header_bytes s ≤ n))
