-- What a tree means: the number that it gives for x. Assumes nothing.
use Rattle.std.specs.Prelude.{cond, ◌⊎◌, ℕ, ◌+◌, ◌-◌, ◌*◌, ◌/◌, ◌^◌, ◌≤◌, ltb, eqb}
use Rattle.std.specs.Prelude.{Option, None, Some}
use Rattle.expr.specs.Forms.{in64_bits}
use Rattle.tree.specs.Stands.{AlgExpr, num, ident, add, sub, mul, div}

-- a step from two numbers, where both are there
abbrev pub of_both : (ℕ → ℕ → Option ℕ) → Option ℕ → Option ℕ → Option ℕ
of_both step (Some n) (Some k) = step n k
of_both step (Some n) None = None
of_both step None second = None

-- a tree worked out for x, each step held to 64 bits; a difference below 0 and a division by 0 have no value
unfoldable pub worked_out : AlgExpr → ℕ → Option ℕ
worked_out (num n) x = Some n
worked_out ident x = Some x
worked_out (add t u) x = of_both (λ n k. in64_bits (n + k)) (worked_out t x) (worked_out u x)
worked_out (sub t u) x = of_both (λ n k. cond (ltb n k) None (Some (n - k))) (worked_out t x) (worked_out u x)
worked_out (mul t u) x = of_both (λ n k. in64_bits (n * k)) (worked_out t x) (worked_out u x)
worked_out (div t u) x = of_both (λ n k. cond (eqb k 0) None (Some (n / k))) (worked_out t x) (worked_out u x)

-- the same in plain numbers, however large (what has no value counts as 0 here)
unfoldable pub plainly : AlgExpr → ℕ → ℕ
plainly (num n) x = n
plainly ident x = x
plainly (add t u) x = plainly t x + plainly u x
plainly (sub t u) x = plainly t x - plainly u x
plainly (mul t u) x = plainly t x * plainly u x
plainly (div t u) x = plainly t x / plainly u x

-- some step of it, in plain numbers, passes 2^64 - 1: a sum or a product, here or further down
unfoldable pub Passes : AlgExpr → ℕ → Type 0
Passes (num n) x = ⊥
Passes ident x = ⊥
Passes (add t u) x = Passes t x ⊎ (Passes u x ⊎ (2 ^ 64 ≤ plainly t x + plainly u x))
Passes (sub t u) x = Passes t x ⊎ Passes u x
Passes (mul t u) x = Passes t x ⊎ (Passes u x ⊎ (2 ^ 64 ≤ plainly t x * plainly u x))
Passes (div t u) x = Passes t x ⊎ Passes u x
