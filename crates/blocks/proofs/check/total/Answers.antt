-- Answers to the goals of `check/total`.
use Rattle.std.proofs.Common.{arith, get_or, []}
use Rattle.std.proofs.lemmas.List.Sums.{sum_by_more}
use Rattle.blocks.proofs.Summing.{number_of, number-is, chunks-folded}
use Rattle.blocks.proofs.check.total.Goals as goal

pub loop-four-preserved : goal.loop-four-preserved
loop-four-preserved c =
    let fours = c.as_chunks.result.0.now in
    let i = c.loop-four.four-index in
    let now = number-is (get_or fours i []) c.from_le_bytes.ensures in
    (omega (arith, sum_by_more number_of fours i [] c.loop-four-test.true), omega arith)

pub overflow_add-sum : goal.overflow_add-sum
overflow_add-sum c = omega arith

pub returns : goal.returns
returns c = chunks-folded c.args.b.now (λ i. (c.type_inv.b i).fits) (omega arith) c.as_chunks.ensures.front (omega arith) c.loop-four.invariant.0
