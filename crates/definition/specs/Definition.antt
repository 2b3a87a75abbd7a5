-- The verdict on any bytes as a sheet: steps 1 to 5 in order. Assumes nothing.
use Rattle.std.specs.Prelude.{◌≡◌, List, ℕ}
use Rattle.answer.specs.Paper.{Answer, gives, Check, accepted, ◌and_then◌}
use Rattle.sheet.specs.Sheet.{sheet_check}
use Rattle.field_blocks.specs.Step.{fields_check}
use Rattle.header.specs.declared.Header.{Header}
use Rattle.header.specs.Step.{header_check, header_bytes, header_of}
use Rattle.length.specs.Step.{length_check}
use Rattle.cond.specs.Step.{cond_check}

unfoldable pub definition_check : List ℕ → Check
definition_check s =
    sheet_check s
    and_then fields_check s
    and_then header_check s
    and_then length_check s (header_bytes s)
    and_then cond_check s

-- a sheet that passes all of them is accepted
abbrev pub Accepted : List ℕ → Type 0
Accepted s = definition_check s ≡ accepted

-- how many fields its header has, and how many bytes
abbrev pub defined_header : List ℕ → Answer Header
defined_header s = definition_check s and_then gives (header_of s)
