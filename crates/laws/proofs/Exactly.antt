-- Exactly when a write, a read and the template are accepted: each is a chain that begins with the verdict, so that the sheet is accepted; past it the layout's
-- laws say the rest, and its fields are the sheet's. Assumes nothing.
use mathlib.Core.Path.{◌≡◌, sym, ◌∙◌}
use mathlib.Core.Bool.{Bool}
use mathlib.Core.List.{List}
use mathlib.Core.Logic.{◌↔◌}
use Prim.Native.Nat.{ℕ}
use lib.ListN.{length}
use Rattle.answer.specs.Paper.{gives, accepted}
use Rattle.answer.proofs.Chains.{both, given}
use Rattle.layout.specs.Access.{Value, reach, value_at, Write, write_check}
use Rattle.layout.proofs.Access as layout
use Rattle.header.specs.Starts.{header_layout}
use Rattle.definition.specs.Definition.{definition_check, Accepted}
use Rattle.template.proofs.Built.{room-is}
use Rattle.access.specs.Access.{sheet_reach, sheet_read, sheet_write_check}
use Rattle.access.proofs.BySheet.{read-after, reach-is, write-check-is}
use Rattle.laws.specs.Fields.{SheetAllowed, SheetReachable}
use Rattle.laws.specs.Exactly.{Exactly}
use Rattle.laws.proofs.Fields.{readable-is, allowed-is}

module _ (s : List ℕ) where
  writes_are : (n : ℕ) (w : Write) → (sheet_write_check s n w ≡ accepted) ↔ (Accepted s × SheetAllowed s n w)
  unfolding sheet_write_check
  writes_are n w = (
    λ e. let two = both (definition_check s) (write_check (header_layout s) n w) e in
        (two.0, (allowed-is s two.0 n w).0 ((layout.write-is (header_layout s) n w).0 two.1)),
    λ p. write-check-is s p.0 n w ∙ (layout.write-is (header_layout s) n w).1 ((allowed-is s p.0 n w).1 p.1),
  )

  reaches-are : (n : ℕ) (as_bytes : Bool) (i : ℕ) → (sheet_reach s n as_bytes i ≡ accepted) ↔ (Accepted s × SheetReachable s n as_bytes i)
  unfolding sheet_reach
  reaches-are n as_bytes i = (
    λ e. let two = both (definition_check s) (reach (header_layout s) n as_bytes i) e in
        (two.0, (readable-is s two.0 n as_bytes i).0 ((layout.reach-is (header_layout s) n as_bytes i).0 two.1)),
    λ p. reach-is s p.0 n as_bytes i ∙ (layout.reach-is (header_layout s) n as_bytes i).1 ((readable-is s p.0 n as_bytes i).1 p.1),
  )

  reads-are : (b : List ℕ) (as_bytes : Bool) (i : ℕ) → ((v : Value) × (sheet_read s b as_bytes i ≡ gives v)) ↔ (Accepted s × SheetReachable s (length b) as_bytes i)
  reads-are b as_bytes i = (
    λ p. (reaches-are (length b) as_bytes i).0 (given (sheet_reach s (length b) as_bytes i) (sym (read-after s i b as_bytes) ∙ p.1)).0,
    λ r. (value_at (header_layout s) b as_bytes i, read-after s i b as_bytes ∙ rw ((reaches-are (length b) as_bytes i).1 r)),
  )

  pub exactly : Exactly s
  exactly = record { writes_are = writes_are; reads-are = reads-are; reaches-are = reaches-are; template-is = room-is s }
