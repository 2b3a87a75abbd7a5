-- `Bytes::in_bits` meets its contract: the law of the case that the multiplication found. Assumes nothing.
use Rattle.std.proofs.Common.{sym, ◌∙◌, ap, arith}
use Rattle.std.specs.Prelude.{Some}
use Rattle.number.specs.Numbers.{in_bits_says}
use Rattle.number.proofs.Limits.{in-bits, not-in-bits}
use Rattle.number.proofs.Bytes.in_bits.Goals as goal

pub returns-in_err-checked_mul : goal.returns-in_err-checked_mul
returns-in_err-checked_mul c = ap in_bits_says c.from_residual.ensures ∙ sym (not-in-bits _ (omega (arith, c.in_err-checked_mul.ensures)))

pub returns : goal.returns
returns c = ap Some (omega (arith, c.in_ok-checked_mul.ensures.1)) ∙ sym (in-bits _ (omega (arith, c.in_ok-checked_mul.ensures.0)))
