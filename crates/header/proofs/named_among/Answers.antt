-- Answers to the goals of `named_among`.
use Rattle.std.proofs.Common.{◌≡◌, rules, ℕ, Bool, true, false}
use Rattle.std.proofs.lemmas.Iterator.{first_from_Range}
use Rattle.octets.specs.Octets.{same}
use Rattle.sheet.proofs.Found.{found}
use Rattle.header.specs.Names.{name_at}
use Rattle.header.proofs.named_among.Goals as goal

pub returns : goal.returns
returns c =
    let has : ℕ → Bool = λ i. same (name_at c.args.s.now i) c.args.wanted.now in
    found has c.args.n c.find.result
    (first_from_Range _ _ _ _ (λ i. has i ≡ true) (λ i. has i ≡ false) c.find.ensures.ran
    (λ x q k. search rules)
    (λ x q k. (search rules, search rules)))
