-- The lines at values. Assumes nothing.
use Rattle.std.specs.Prelude.{◌≡◌, refl, [], ◌∷◌}
use Rattle.std.specs.Prelude.{None, Some}
use Rattle.text.specs.Text.{digits, decimal, hex, spaced, line}
use Rattle.answer.specs.declared.Group.{Group}
use Rattle.expr.specs.declared.UsableAlgExpr.{UsableAlgExpr}
use Rattle.slots.specs.declared.LengthField.{LengthField}
use Rattle.lines.specs.Lines.{refusal_line, template_line, undefined_line, worked_line, length_line}
use Rattle.octets.specs.Ascii.{ascii}

a-refusal : refusal_line Group.Length 12 98 ≡ ascii "refused length 12 98\n"
unfolding refusal_line line spaced decimal digits
a-refusal = refl

-- no bytes, and no space after the word
no_bytes : template_line [] ≡ ascii "template\n"
unfolding template_line line spaced
no_bytes = refl

some_bytes : template_line (65 ∷ 0 ∷ 13 ∷ []) ≡ ascii "template 41000d\n"
unfolding template_line line spaced hex
some_bytes = refl

undefined : length_line 1 [] None LengthField.Undefined ≡ ascii "length payload_len undefined\n"
unfolding undefined_line line spaced
undefined = refl

worked : length_line 2 (ascii "size") (Some 4095) (LengthField.Expr UsableAlgExpr.IdentOnly) ≡ ascii "length packet_len size 4095\n"
unfolding worked_line line spaced decimal digits
worked = refl

absent : length_line 0 [] None LengthField.Absent ≡ []
absent = refl
