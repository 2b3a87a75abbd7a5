-- `check_holds` meets its contract: of 512 bytes the plain sum, folded, is the ones' complement sum with its bytes exchanged. Assumes nothing.
use Rattle.std.proofs.Common.{sym, ap, ◌∙◌, ℕ, arith}
use borrow.Author.Tests.{ne_eqb}
use lib.Dec.{eqb}
use Rattle.blocks.proofs.Summing.{check-other, check-swapped}
use Rattle.blocks.proofs.check.check_holds.Goals as goal

pub returns-then-b-eq-SIZE : goal.returns-then-b-eq-SIZE
returns-then-b-eq-SIZE c =
    ap (λ (x : ℕ). eqb x 65535) (c.fold.ensures ∙ c.total.ensures) ∙ sym (check-swapped c.args.b.now (λ i. (c.type_inv.b i).fits) (omega arith))

pub returns-else-b-eq-SIZE : goal.returns-else-b-eq-SIZE
returns-else-b-eq-SIZE c =
    ne_eqb _ _ c.if-b-eq-SIZE.false ∙ sym (check-other c.args.b.now c.if-b-eq-SIZE.false)
