-- `meet_in` meets its contract: what the two cut ranges have in common is empty exactly where they do not meet. Assumes nothing.
use mathlib.Core.Path.{◌≡◌, sym, ap, ◌∙◌}
use Rattle.answer.proofs.Chains.{never-given}
use Rattle.answer.specs.Paper.{says}
use Rattle.bounds.specs.Bounds.{intersection}
use Rattle.cond.specs.Ranges.{clipped_in}
use Rattle.cond.proofs.NeverExcluded.{in-common, meeting}
use Rattle.cond.proofs.meet_in.Goals as goal
use Rattle.cond.proofs.meet_in.Goals.{After-intersect}

-- what the program had for the two
had : (c : After-intersect) → let a = c.args in
    says c.intersect.result ≡ intersection (clipped_in a.b.now a.most a.j) (clipped_in a.b.now a.most a.k)
had c = rw (c.intersect.ensures, c.clipped_in.ensures, c.clipped_in-2.ensures)

pub returns-in-Ok : goal.returns-in-Ok
returns-in-Ok c =
    let a = c.args in
    meeting a.b.now a.most a.j a.k (sym (had (goal.at.returns-in-Ok c).After-intersect) ∙ ap says c.in-Ok.is) c.is_empty.ensures

pub returns-in-Err : goal.returns-in-Err
returns-in-Err c =
    let a = c.args in
    absurd (never-given (sym (had (goal.at.returns-in-Err c).After-intersect) ∙ ap says c.in-Err.is) (in-common a.b.now a.most a.j a.k))
