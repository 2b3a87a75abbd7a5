-- What `find` over the first n numbers answers: the first at which a test holds. Assumes nothing.
use Rattle.std.proofs.Common.{◌≡◌, ◌<◌, ◌≤◌, sym, arith, ℕ, Bool, true, false}
use Rattle.std.specs.Prelude.{Option, Some, None, MatchOption}
use Rattle.answer.specs.Walk.{first_where}
use Rattle.answer.proofs.Walk.{where-nothing, where-at}

pub found : (test : ℕ → Bool) (n : ℕ) (r : Option ℕ)
    → MatchOption r ((k : ℕ) → 0 ≤ k → k < n → test k ≡ false) (λ i. (0 ≤ i) × (i < n) × (test i ≡ true) × ((k : ℕ) → 0 ≤ k → k < i → test k ≡ false))
    → r ≡ first_where test n
found test n None none = sym (where-nothing test n (λ i h. none i (omega arith) h))
found test n (Some i) some = sym (where-at test i n some.1 (where-nothing test i (λ k h. some.3 k (omega arith) h)) some.2)
