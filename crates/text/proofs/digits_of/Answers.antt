-- Answers to the goals of `digits_of`.
use Rattle.std.proofs.Common.{◌≡◌, refl, ap, ◌∙◌, List, ◌++◌, ℕ, ◌%◌, ◌^◌, ◌≤◌, arith}
use mathlib.Core.List.{append-nil}
use lib.ListN.{length-set, drop_of_length-le}
use Rattle.text.specs.Text.{decimal}
use Rattle.text.proofs.Decimal.{room-more, next-digit, first-digit}
use Rattle.text.proofs.digits_of.Goals as goal

pub loop-i-init : goal.loop-i-init
loop-i-init c =
    let room : 10 ^ 20 ≡ 100000000000000000000 = refl in
    let none = drop_of_length-le c.args.d.now {i = 20} (omega arith) in
    (omega arith, omega arith, omega arith, ap (λ (l : List ℕ). decimal c.args.n ++ l) none ∙ append-nil _)

pub loop-i-preserved : goal.loop-i-preserved
loop-i-preserved c =
    let inv = c.loop-i.invariant in
    let more : 10 ≤ c.loop-i.left = omega arith in
    let room = room-more c.loop-i.left c.loop-i.i inv.1 more in
    (omega arith, room.1, simp length-set inv.2, next-digit _ _ _ _ inv.0 (omega arith) inv.3 more)

pub returns-then-left-eq0 : goal.returns-then-left-eq0
returns-then-left-eq0 c =
    let inv = c.loop-i.invariant in
    let last : c.loop-i.left % 10 ≡ c.loop-i.left = omega arith in
    (omega arith, rw last (first-digit _ _ _ _ inv.0 (omega arith) inv.3 (omega arith)))

pub returns : goal.returns
returns c = absurd (omega arith)
