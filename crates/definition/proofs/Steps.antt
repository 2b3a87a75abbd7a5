-- The five steps: what the program was told of a header, and what an accepted sheet passed. Assumes nothing.
use Rattle.std.specs.Prelude.{Result, Ok, Err}
use mathlib.Core.Path.{◌≡◌, sym, ap, ◌∙◌}
use mathlib.Core.List.{List}
use Prim.Native.Nat.{ℕ, ◌*◌, ◌≤◌}
use native.Mathlib.Omega.{arith}
use Rattle.answer.specs.declared.Refusal.{Refusal}
use Rattle.answer.specs.Paper.{accepted, refusal_says, says}
use Rattle.answer.proofs.Chains.{both_is, given, not-given}
use Rattle.number.specs.Numbers.{max_bytes}
use Rattle.layout.specs.Layout.{bits, Good}
use Rattle.sheet.specs.Sheet.{sheet_check}
use Rattle.field_blocks.specs.Step.{fields_check}
use Rattle.header.specs.declared.Header.{Header}
use Rattle.header.specs.Starts.{header_layout, bits_of}
use Rattle.header.specs.HeaderIs.{HeaderIs}
use Rattle.header.specs.Step.{header_check, header_bytes, header_of}
use Rattle.header.proofs.Starts.{layout-bits}
use Rattle.header.proofs.HeaderIs.{header_is, good}
use Rattle.length.specs.Step.{length_check}
use Rattle.cond.specs.Step.{cond_check}
use Rattle.definition.specs.declared.Definition.{Definition}
use Rattle.definition.specs.Definition.{definition_check, Accepted, defined_header}

-- ---- what the program was told of a header: it is that of an accepted sheet, or the refusal

module _ (s : List ℕ) {n : Result Header Refusal} (e : says n ≡ defined_header s) where
  pub header-given : {h : Header} → n ≡ Ok h → Accepted s × (header_of s ≡ h)
  header-given is = given (definition_check s) (sym e ∙ ap says is)

  pub header_refused : {r : Refusal} → n ≡ Err r → definition_check s ≡ refusal_says r
  header_refused is = not-given (definition_check s) (header_of s) (sym e ∙ ap says is)

-- a definition is that of its sheet
pub defined : {s : List ℕ} (d : Definition) → d.sheet.now ≡ s → Accepted s × (d.header ≡ header_of s)
defined d is = (rw is at d.accepted, rw is at d.header_is)

-- ---- an accepted sheet passed each step

pub record FiveSteps (s : List ℕ) : Type 0 where
  pub sheet : sheet_check s ≡ accepted
  pub fields : fields_check s ≡ accepted
  pub header : header_check s ≡ accepted
  pub length : length_check s (header_bytes s) ≡ accepted
  pub conds : cond_check s ≡ accepted

pub five-steps : (s : List ℕ) → Accepted s → FiveSteps s
unfolding definition_check
five-steps s ok =
    let p = simp both_is at ok in
    record { sheet = p.0; fields = p.1.0; header = p.1.1.0; length = p.1.1.1.0; conds = p.1.1.1.1 }

-- ---- the header of an accepted sheet

module _ (s : List ℕ) (ok : Accepted s) where
  laid : HeaderIs s
  laid = (header_is s).0 (five-steps s ok).header

  -- it is whole bytes, and few
  pub whole-bytes : bits_of s ≡ 8 * header_bytes s
  whole-bytes = omega (arith, laid.whole)

  pub few_bytes : header_bytes s ≤ max_bytes
  few_bytes = laid.most

  -- as the list of its fields it has the same bits, and is good
  pub layout-whole : bits (header_layout s) ≡ 8 * header_bytes s
  layout-whole = layout-bits s ∙ whole-bytes

  pub good-layout : Good (header_layout s)
  good-layout = let steps = five-steps s ok in good s steps.fields steps.header
