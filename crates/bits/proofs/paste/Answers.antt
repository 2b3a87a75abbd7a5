-- `paste` meets its contract: the old bits' part is taken out, and the new one's added. Assumes nothing.
use mathlib.Core.Path.{◌≡◌}
use Prim.Native.Nat.{◌+◌, ◌-◌, ◌*◌, ◌%◌, ◌^◌, ◌≤◌, ◌<◌}
use native.Mathlib.Omega.{arith}
use Rattle.bits.specs.Working.{pasted}
use Rattle.bits.proofs.Windows.{paste_none, pasting}
use Rattle.bits.proofs.paste.Goals as goal
use Rattle.bits.proofs.paste.Goals.{After-cut}

pub returns-then-w-eq0 : goal.returns-then-w-eq0
returns-then-w-eq0 c =
    let a = c.args in
    paste_none a.x a.w (64 - (a.skipped + a.w)) a.v c.if-w-eq0.true c.requires.v_bound

-- the steps, from what was cut out
steps : (c : After-cut) →
    let a = c.args in
    let gone = c.cut.result * 2 ^ (64 - (a.skipped + a.w)) % 2 ^ 64 in
    let come = a.v * 2 ^ (64 - (a.skipped + a.w)) % 2 ^ 64 in
    let all = pasted a.x a.w (64 - (a.skipped + a.w)) a.v in
    (gone ≤ a.x) × (a.x - gone + come ≡ all) × (all < 2 ^ 64)
steps c = pasting c.args.x c.args.w _ c.args.v (omega arith) c.ranges.x.fits c.requires.v_bound c.cut.ensures

pub overflow_sub-result : goal.overflow_sub-result
overflow_sub-result c = omega (arith, steps (goal.at.overflow_sub-result c).After-cut)

pub overflow_add-result : goal.overflow_add-result
overflow_add-result c = omega (arith, steps (goal.at.overflow_add-result c).After-cut)

pub returns : goal.returns
returns c = (steps (goal.at.returns c).After-cut).1
