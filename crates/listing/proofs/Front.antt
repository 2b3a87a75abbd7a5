-- What is printed of bytes is what is printed of their first 50,689. Longer bytes are over 99 blocks, or 99 blocks and a part of one: sheet 1, place 0,
-- whatever they are. Assumes nothing.
use mathlib.Core.Path.{◌≡◌, refl, sym, ap, ◌∙◌}
use mathlib.Core.Bool.{Bool, true, false, not}
use mathlib.Core.List.{List}
use Prim.Native.Nat.{ℕ, ◌%◌, ◌≤◌, ◌<◌}
use native.Mathlib.Decide.{dec_lt}
use native.Mathlib.Omega.{arith}
use lib.Dec.{ltb, eqb}
use lib.ListN.{length, take, length-take}
use lib.Seq.{take_all}
use borrow.Author.Tests.{eqb-true, ltb-false, not-false}
use Rattle.answer.specs.declared.Group.{Group}
use Rattle.answer.proofs.Tests.{neither}
use Rattle.blocks.specs.Layout.{block_size}
use Rattle.sheet.specs.Blocks.{block_count}
use Rattle.sheet.specs.Sheet.{wrong_length, sheet_check}
use Rattle.definition.specs.Definition.{definition_check}
use Rattle.template.specs.Template.{template_check}
use Rattle.lines.specs.Lines.{refusal_line}
use Rattle.listing.specs.Listing.{printed}

module _ (s : List ℕ) (long : 50689 ≤ length s) where
  too_long : wrong_length s ≡ true
  too_long = by (wrong_length s) refl
    where
      by : (test : Bool) → wrong_length s ≡ test → test ≡ true
      by true e = refl
      by false e =
          let sized = neither (not (eqb (length s % block_size) 0)) (ltb 99 (block_count s)) e in
          let whole = eqb-true (length s % block_size) 0 (not-false _ sized.0) in
          let few = ltb-false 99 (block_count s) sized.1 in
          absurd (omega arith)

  no-sheet : printed s ≡ refusal_line Group.Sheet 1 0
  unfolding printed template_check definition_check sheet_check
  no-sheet = rw too_long

pub printed-front : (s : List ℕ) (n : ℕ) → 50689 ≤ n → printed (take n s) ≡ printed s
printed-front s n h = by (dec_lt n (length s))
  where
    by : Dec (n < length s) → printed (take n s) ≡ printed s
    by (yes longer) = no-sheet (take n s) (simp length-take (omega arith)) ∙ sym (no-sheet s (omega arith))
    by (no shorter) = ap printed (take_all n s (omega arith))
