-- `any` over the indexes below n tells whether the test holds at one of them. Assumes nothing.
use mathlib.Core.Path.{◌≡◌, refl, sym, ap, ◌∙◌}
use mathlib.Core.Bool.{Bool, true, false}
use Prim.Native.Nat.{ℕ, ◌<◌}
use native.Mathlib.Omega.{arith}
use lib.ListN.{length, get_or}
use Rattle.std.specs.Bool.{MatchBool}
use Rattle.std.specs.List.{range_with_len, AllWithin, HoldsAt}
use Rattle.std.proofs.lemmas.List.FromFn.{length-range_with_len, get_or-range_with_len}
use Rattle.answer.specs.Walk.{first_where, is_some}
use Rattle.answer.proofs.Walk.{where-nowhere, where-nothing, not_some}

module _ (test : ℕ → Bool) (n : ℕ) where
  index-at : (j : ℕ) → j < n → get_or (range_with_len 0 n) j 0 ≡ j
  index-at j h = omega (arith, get_or-range_with_len 0 n j 0 h)

  found : (j : ℕ) → j < n → test j ≡ true → (b : Bool) → is_some (first_where test n) ≡ b → true ≡ b
  found j h is true e = refl
  found j h is false e = sym is ∙ where-nowhere test n (not_some _ e) j h

  pub any-where : (r : Bool) → MatchBool r ((j : ℕ) × (j < length (range_with_len 0 n)) × HoldsAt (λ j. test j ≡ true) (range_with_len 0 n) j)
      (AllWithin (λ j. test j ≡ false) (range_with_len 0 n) 0 (length (range_with_len 0 n)))
      → r ≡ is_some (first_where test n)
  any-where true (j, h, is) =
      let l : j < n = omega (arith, h, length-range_with_len 0 n) in
      found j l (rw (index-at j l) at (is 0)) _ refl
  any-where false none =
      sym (ap is_some (where-nothing test n (λ j l. rw (index-at j l) at (none j 0 (omega arith) (omega (arith, l, length-range_with_len 0 n))))))
