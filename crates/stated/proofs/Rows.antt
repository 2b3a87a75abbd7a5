-- Rows of one width, one after the other, are read row by row: `rows_are`. Assumes nothing.
use mathlib.Core.Path.{◌≡◌, sym, ◌∙◌}
use mathlib.Core.List.{List, [], ◌∷◌, ◌++◌}
use mathlib.Core.Logic.{◌↔◌}
use Prim.Native.Nat.{ℕ, zero, suc, ◌+◌, ◌*◌, ◌≤◌, ◌<◌}
use native.Mathlib.Nat.{add-zero, mul-zero, mul-suc}
use native.Mathlib.Omega.{arith}
use lib.ListN.{length, get_or, length-append}
use lib.Seq.{length-slice, slice, slice_empty}
use Rattle.octets.specs.Octets.{AreBytes}
use Rattle.stated.specs.Parts.{Part, written, rows}
use Rattle.stated.proofs.Reading.{parts_width, Fit, Reads}
use Rattle.stated.proofs.Parts.{halves, slice-join, bytes-none, bytes-append, written-length, written-bytes, reads-is}

module _ {A : Type 0} (row : A → List Part) (d : A) (w : ℕ) (wide : (r : A) → parts_width (row r) ≡ w) where
  pub rows-length : (rs : List A) → ((k : ℕ) → k < length rs → Fit (row (get_or rs k d))) → length (rows row rs) ≡ w * length rs
  unfolding rows
  rows-length [] h = sym (mul-zero w)
  rows-length (r ∷ rs) h =
      length-append (written (row r)) (rows row rs)
      ∙ omega (arith, written-length (row r) (h 0 (omega arith)), wide r, rows-length rs (λ k l. h (suc k) (omega arith)), mul-suc w (length rs))

  pub rows-bytes : (rs : List A) → ((k : ℕ) → k < length rs → Fit (row (get_or rs k d))) → AreBytes (rows row rs)
  unfolding rows
  rows-bytes [] h = bytes-none
  rows-bytes (r ∷ rs) h = bytes-append (written (row r)) (rows row rs) (written-bytes (row r) (h 0 (omega arith))) (rows-bytes rs (λ k l. h (suc k) (omega arith)))

  module _ (b : List ℕ) (bytes : AreBytes b) where
    rows_more : (r : A) (rs : List A) (at : ℕ) → Fit (row r) → at + w * suc (length rs) ≤ length b
        → (slice (at + w) (at + w + w * length rs) b ≡ rows row rs) ↔ ((k : ℕ) → k < length rs → Reads b (at + w + w * k) (row (get_or rs k d)))
        → (slice at (at + w * suc (length rs)) b ≡ rows row (r ∷ rs)) ↔ ((k : ℕ) → k < suc (length rs) → Reads b (at + w * k) (row (get_or (r ∷ rs) k d)))
    unfolding rows
    rows_more r rs at h l tail = (apart, λ each. joined ∙ rw (first each, others each))
      where
        next : (k : ℕ) → at + w * suc k ≡ at + w + w * k
        next k = omega (arith, mul-suc w k)

        head : (slice at (at + w) b ≡ written (row r)) ↔ Reads b at (row r)
        head = rw (wide r) at (reads-is b bytes (row r) at h (omega (arith, wide r, mul-suc w (length rs))))

        first : ((k : ℕ) → k < suc (length rs) → Reads b (at + w * k) (row (get_or (r ∷ rs) k d))) → slice at (at + w) b ≡ written (row r)
        first each = head.1 (rw (mul-zero w, add-zero at) at (each 0 (omega arith)))

        others : ((k : ℕ) → k < suc (length rs) → Reads b (at + w * k) (row (get_or (r ∷ rs) k d))) → slice (at + w) (at + w + w * length rs) b ≡ rows row rs
        others each = tail.1 (λ k m. rw (← (next k)) (each (suc k) (omega arith)))

        joined : slice at (at + w * suc (length rs)) b ≡ slice at (at + w) b ++ slice (at + w) (at + w + w * length rs) b
        joined = rw (next (length rs)) (slice-join b at (at + w) (at + w + w * length rs) (omega arith) (omega arith) (omega (arith, next (length rs))))

        apart : slice at (at + w * suc (length rs)) b ≡ written (row r) ++ rows row rs → (k : ℕ) → k < suc (length rs) → Reads b (at + w * k) (row (get_or (r ∷ rs) k d))
        apart e =
            let inside : at + w ≤ length b = omega (arith, mul-suc w (length rs)) in
            let size : length (slice at (at + w) b) ≡ length (written (row r)) = length-slice at (at + w) b inside ∙ omega (arith, wide r, written-length (row r) h) in
            let two = halves _ _ (written (row r)) (rows row rs) size (sym joined ∙ e) in
            λ k m. at_each k m two.0 two.1
          where
            at_each : (k : ℕ) → k < suc (length rs) → slice at (at + w) b ≡ written (row r) → slice (at + w) (at + w + w * length rs) b ≡ rows row rs
                → Reads b (at + w * k) (row (get_or (r ∷ rs) k d))
            at_each zero m p q = rw (mul-zero w, add-zero at) (head.0 p)
            at_each (suc k) m p q = rw (next k) (tail.0 q k (omega arith))

    rows_is : (rs : List A) (at : ℕ) → ((k : ℕ) → k < length rs → Fit (row (get_or rs k d))) → at + w * length rs ≤ length b
        → (slice at (at + w * length rs) b ≡ rows row rs) ↔ ((k : ℕ) → k < length rs → Reads b (at + w * k) (row (get_or rs k d)))
    unfolding rows
    rows_is [] at h l = (λ e k m. absurd (omega arith), λ r. rw (mul-zero w, add-zero at) (slice_empty at b))
    rows_is (r ∷ rs) at h l =
        rows_more r rs at (h 0 (omega arith)) l (rows_is rs (at + w) (λ k m. h (suc k) (omega arith)) (omega (arith, mul-suc w (length rs))))

    -- as many bytes as they have
    pub rows_are : (rs : List A) (at : ℕ) → ((k : ℕ) → k < length rs → Fit (row (get_or rs k d))) → at + w * length rs ≤ length b
        → (slice at (at + length (rows row rs)) b ≡ rows row rs) ↔ ((k : ℕ) → k < length rs → Reads b (at + w * k) (row (get_or rs k d)))
    rows_are rs at h l = rw (rows-length rs h) (rows_is rs at h l)
