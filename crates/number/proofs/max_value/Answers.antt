-- `max_value` meets its contract: the law of the case that the tests found, and all 64 bits shifted down. Assumes nothing.
use mathlib.Core.Path.{sym, ap, ◌∙◌}
use Rattle.std.specs.Prelude.{Some}
use native.Mathlib.Omega.{arith}
use Rattle.number.proofs.Limits.{no-max-zero, no-max-wide, max-is, ones-shifted}
use Rattle.number.proofs.max_value.Goals as goal

pub returns-then-w-eq0 : goal.returns-then-w-eq0
returns-then-w-eq0 c = sym (no-max-zero _ (omega arith))

pub returns-then-w-gt64 : goal.returns-then-w-gt64
returns-then-w-gt64 c = sym (no-max-wide _ (omega arith))

pub returns : goal.returns
returns c = ap Some (ones-shifted _ (omega arith)) ∙ sym (max-is _ (omega arith) (omega arith))
