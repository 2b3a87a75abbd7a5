-- Rows that are set one after the other, in a table that was empty: `rows_none`, `rows_more`. Assumes nothing.
use mathlib.Core.Path.{◌≡◌, refl, sym, ap, ◌∙◌}
use mathlib.Core.List.{List, [], ◌∷◌, ◌++◌}
use Prim.Native.Nat.{ℕ, zero, suc, ◌+◌, ◌-◌, ◌<◌}
use native.Mathlib.Omega.{arith}
use lib.ListN.{length, set, replicate, length-append}
use lib.Seq.{append_snoc, set_at}
use Rattle.abi.specs.Told.{first_rows, rows}

module _ {A : Type 0} where
  module _ (empty : A) (size : ℕ) (row : ℕ → A) where
    first-length : (n : ℕ) → length (first_rows row n) ≡ n
    unfolding first_rows
    first-length zero = refl
    first-length (suc n) = omega (arith, length-append (first_rows row n) (row n ∷ []), first-length n)

    pub rows_none : rows empty size row 0 ≡ replicate size empty
    unfolding rows first_rows
    rows_none = let all : size - 0 ≡ size = omega arith in ap (λ (n : ℕ). replicate n empty) all

    first_more : (n : ℕ) → first_rows row (n + 1) ≡ (first_rows row n ++ (row n ∷ []))
    unfolding first_rows
    first_more n = let next : n + 1 ≡ suc n = omega arith in ap (first_rows row) next

    pub rows_more : (n : ℕ) → n < size → set (rows empty size row n) n (row n) ≡ rows empty size row (n + 1)
    unfolding rows
    rows_more n h =
        let rest = replicate (size - (n + 1)) empty in
        let one_less : size - n ≡ suc (size - (n + 1)) = omega arith in
        ap (λ (m : ℕ). set (first_rows row n ++ replicate m empty) n (row n)) one_less
        ∙ set_at (first_rows row n) empty rest (row n) n (first-length n)
        ∙ sym (append_snoc (first_rows row n) (row n) rest)
        ∙ ap (λ (l : List A). l ++ rest) (sym (first_more n))
