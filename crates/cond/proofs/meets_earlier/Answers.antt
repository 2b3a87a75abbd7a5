-- `meets_earlier` meets its contract: `any` finds an earlier range that meets this one, or there is none. Assumes nothing.
use Rattle.std.proofs.Common.{rules, tests, arith, ◌≡◌, Bool, ℕ, refl, true, false}
use Rattle.std.proofs.lemmas.Iterator.{cases_from_any, YieldsList-from_range}
use Rattle.bounds.specs.Bounds.{meets}
use Rattle.cond.specs.Ranges.{clipped_in}
use Rattle.cond.proofs.AnyOf.{any-where}
use Rattle.cond.proofs.meets_earlier.Goals as goal

pub returns : goal.returns
returns c =
    let a = c.args in
    let meet : ℕ → Bool = λ j. meets (clipped_in a.b.now a.most j) (clipped_in a.b.now a.most a.k) in
    any-where meet a.k _
    (cases_from_any _ _ _ (λ j. meet j ≡ true) (λ j. meet j ≡ false) c.any.ensures.ran (YieldsList-from_range 0 a.k a.k refl (omega arith))
    (λ j b k. search (rules, tests)) (λ j b k. search (rules, tests)))
