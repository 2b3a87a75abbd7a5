-- `parse_to_byte_val` meets its contract: the law of the case that the conversion found. Assumes nothing.
use Rattle.std.proofs.Common.{sym, ◌∙◌, ap, arith}
use Rattle.answer.specs.Paper.{gives}
use Rattle.number.proofs.Limits.{byte-is, no_byte}
use Rattle.number.proofs.parse_to_byte_val.Goals as goal

pub returns-in_default : goal.returns-in_default
returns-in_default c = sym (no_byte _ (omega (arith, c.in_default.ensures)))

pub returns : goal.returns
returns c = ap gives c.in-Ok.ensures.1 ∙ sym (byte-is _ (omega (arith, c.in-Ok.ensures.0)))
