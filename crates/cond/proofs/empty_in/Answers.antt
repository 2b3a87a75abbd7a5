-- `empty_in` meets its contract: a cut range tells its emptiness truly. Assumes nothing.
use mathlib.Core.Path.{ap, ◌∙◌}
use Rattle.bounds.specs.Bounds.{is_empty}
use Rattle.bounds.proofs.InNumbers.{clipped-empty}
use Rattle.cond.specs.Ranges.{range_in}
use Rattle.cond.proofs.NeverExcluded.{never-excluded}
use Rattle.cond.proofs.empty_in.Goals as goal

pub returns : goal.returns
returns c =
    let a = c.args in
    let range = range_in a.b.now a.k in
    c.is_empty.ensures _ (ap is_empty c.clipped_in.ensures ∙ clipped-empty range a.most (never-excluded a.b.now a.k))
