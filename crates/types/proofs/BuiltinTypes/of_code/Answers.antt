-- `BuiltinTypes::of_code` meets its contract: the code that the match found, or none of the five. Assumes nothing.
use borrow.Author.Tests.{ne_eqb}
use Rattle.types.specs.Types.{type_of_code}
use native.Mathlib.Omega.{arith}
use Rattle.types.proofs.BuiltinTypes.of_code.Goals as goal

pub returns-in_default : goal.returns-in_default
unfolding type_of_code
returns-in_default c = simp (ne_eqb c.args.code 1 (omega arith), ne_eqb c.args.code 2 (omega arith), ne_eqb c.args.code 3 (omega arith), ne_eqb c.args.code 4 (omega arith), ne_eqb c.args.code 5 (omega arith))

pub returns-in-1 : goal.returns-in-1
returns-in-1 c = unfold type_of_code in rw c.in-1.is

pub returns-in-2 : goal.returns-in-2
returns-in-2 c = unfold type_of_code in rw c.in-2.is

pub returns-in-3 : goal.returns-in-3
returns-in-3 c = unfold type_of_code in rw c.in-3.is

pub returns-in-4 : goal.returns-in-4
returns-in-4 c = unfold type_of_code in rw c.in-4.is

pub returns-in-5 : goal.returns-in-5
returns-in-5 c = unfold type_of_code in rw c.in-5.is
