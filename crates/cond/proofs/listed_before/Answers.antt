-- `listed_before` meets its contract: `any` finds an entry that lists the field, or there is none. Assumes nothing.
use Rattle.std.proofs.Common.{rules, tests, arith, ◌≡◌, Bool, ℕ, ◌&&◌, refl, true, false}
use Rattle.std.proofs.lemmas.Iterator.{cases_from_any, YieldsList-from_range}
use Rattle.octets.specs.Octets.{same}
use Rattle.sheet.specs.Blocks.{block_at}
use Rattle.header.specs.Names.{name_at}
use Rattle.cond.specs.Step.{is_entry}
use Rattle.cond.proofs.AnyOf.{any-where}
use Rattle.cond.proofs.listed_before.Goals as goal

pub returns : goal.returns
returns c =
    let a = c.args in
    let listed : ℕ → Bool = λ j. is_entry (block_at a.s.now j) && same (name_at a.s.now j) (name_at a.s.now a.i) in
    any-where listed a.i _
    (cases_from_any _ _ _ (λ j. listed j ≡ true) (λ j. listed j ≡ false) c.any.ensures.ran (YieldsList-from_range 0 a.i a.i refl (omega arith))
    (λ j b k. search (rules, tests)) (λ j b k. search (rules, tests)))
