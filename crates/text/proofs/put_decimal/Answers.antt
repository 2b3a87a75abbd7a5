-- `put_decimal` meets its contract: what lies from the first digit on is all of the number. Assumes nothing.
use mathlib.Core.Path.{ap, ◌∙◌}
use mathlib.Core.List.{List}
use Prim.Native.Nat.{ℕ, ◌-◌}
use native.Mathlib.Omega.{arith}
use lib.ListN.{drop, length-drop}
use lib.Seq.{take_all}
use Rattle.text.specs.Output.{emit}
use Rattle.text.proofs.put_decimal.Goals as goal

pub returns : goal.returns
returns c =
    let a = c.args in
    let d = c.digits_of-i in
    let rest = take_all (20 - d.result) (drop d.result d.new.d) (simp length-drop (omega arith)) in
    c.put_bytes.ensures ∙ ap (λ (t : List ℕ). emit t (a.out.now, a.to)) (rest ∙ d.ensures.1)
