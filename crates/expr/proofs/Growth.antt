-- A length never falls as its value rises: where a larger value has a length, so has a smaller one, and it is not longer. Shown of each step, then of
-- two. Assumes nothing.
use mathlib.Core.Path.{◌≡◌, refl}
use Rattle.std.specs.Prelude.{Option, Some}
use Prim.Native.Nat.{ℕ, ◌+◌, ◌*◌, ◌≤◌}
use native.Mathlib.Nat.{mul-le-mul_right}
use native.Mathlib.Omega.{arith}
use Rattle.expr.specs.declared.UsableAlgExpr.{UsableAlgExpr}
use Rattle.expr.specs.Forms.{◌then◌, plus, times, forward}
use Rattle.expr.proofs.WayBack.{fits-is, then_is}

abbrev pub Grows : (ℕ → Option ℕ) → Type 0
Grows step = (x y most : ℕ) → x ≤ y → step y ≡ Some most → (n : ℕ) × (step x ≡ Some n) × (n ≤ most)

plus-grows : (a : ℕ) → Grows (plus a)
plus-grows a x y most h e = let p = (fits-is (y + a) most).0 e in (x + a, (fits-is (x + a) (x + a)).1 (refl, omega arith), omega arith)

times-grows : (m : ℕ) → Grows (times m)
times-grows m x y most h e =
    let p = (fits-is (y * m) most).0 e in
    let less : x * m ≤ y * m = mul-le-mul_right m h in
    (x * m, (fits-is (x * m) (x * m)).1 (refl, omega arith), omega arith)

both-grow : {f g : ℕ → Option ℕ} → Grows f → Grows g → Grows (λ x. f x then g)
both-grow {f} {g} one two x y most h e =
    let s = (then_is (f y) g most).0 e in
    let first = one x y s.0 h s.1 in
    let second = two first.0 s.0 most first.2 s.2 in
    (second.0, (then_is (f x) g second.0).1 (first.0, first.1, second.1), second.2)

pub forward-grows : (e : UsableAlgExpr) → Grows (forward e)
forward-grows UsableAlgExpr.IdentOnly = λ x y most h e. let same : y ≡ most = cc in (x, refl, omega arith)
forward-grows (UsableAlgExpr.SimpleAdd a) = plus-grows a
forward-grows (UsableAlgExpr.SimpleMult m) = times-grows m
forward-grows (UsableAlgExpr.AddMult a m) = both-grow (plus-grows a) (times-grows m)
forward-grows (UsableAlgExpr.MultAdd m a) = both-grow (times-grows m) (plus-grows a)
