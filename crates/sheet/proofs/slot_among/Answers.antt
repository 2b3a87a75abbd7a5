-- Answers to the goals of `slot_among`.
use Rattle.std.proofs.Common.{◌≡◌, rules, ℕ, Bool, true, false}
use Rattle.std.proofs.lemmas.Iterator.{first_from_Range}
use Rattle.sheet.specs.Blocks.{block_at, is_slot}
use Rattle.sheet.proofs.Found.{found}
use Rattle.sheet.proofs.slot_among.Goals as goal

pub returns : goal.returns
returns c =
    let gives : ℕ → Bool = λ i. is_slot c.args.slot (block_at c.args.s.now i) in
    found gives c.args.n c.find.result
    (first_from_Range _ _ _ _ (λ i. gives i ≡ true) (λ i. gives i ≡ false) c.find.ensures.ran
    (λ x q k. search rules)
    (λ x q k. (search rules, search rules)))
