-- The template of a sheet's header: what is answered, and the buffer after it. Assumes nothing.
use Rattle.answer.specs.declared.Refusal.{Refusal}
use Rattle.std.specs.Prelude.{◌≡◌, List, ℕ, ltb, length, Result}
use Rattle.answer.specs.declared.Group.{Group}
use Rattle.answer.specs.Paper.{Check, accepted, says, refuse, ◌and_then◌}
use Rattle.sheet.specs.Blocks.{block_count, field_count}
use Rattle.layout.specs.Layout.{Filled}
use Rattle.header.specs.Starts.{header_layout}
use Rattle.header.specs.Step.{header_bytes}
use Rattle.definition.specs.Definition.{definition_check}

-- steps 1 to 5, then room 1, with the block count as its place: a buffer of n bytes is shorter than the header
unfoldable pub template_check : List ℕ → ℕ → Check
template_check s n = definition_check s and_then refuse (ltb n (header_bytes s)) Group.Room 1 (block_count s)

-- the answer, and the buffer b' after it: every field reads as its default and the rest is as it was, or nothing is changed
pub record TemplateBuilt (s b b' : List ℕ) (r : Result (Unit {0}) Refusal) : Type 0 where
  pub answer : says r ≡ template_check s (length b)
  pub filled : says r ≡ accepted → Filled (header_layout s) (field_count s) b b'
  pub untouched : (says r ≡ accepted → ⊥) → b' ≡ b
