-- What a text leaves in the buffer, said at once. Assumes nothing.
use mathlib.Core.Path.{◌≡◌, refl, sym, ap, ◌∙◌}
use mathlib.Core.Bool.{Bool, true, false}
use mathlib.Core.List.{List, [], ◌∷◌, ◌++◌, append-nil}
use Prim.Native.Nat.{ℕ, suc, ◌+◌, ◌-◌, min, ◌≤◌, ◌<◌}
use native.Mathlib.Nat.{add-zero}
use native.Mathlib.Numerals.{add-one}
use native.Mathlib.Omega.{arith}
use lib.Dec.{leb}
use lib.ListN.{length, set, take, drop, length-set, length-append, length-take, length-drop, take-append-drop, drop_of_length-le}
use lib.Seq.{sets, sets-eq, take_all, length-take-le}
use borrow.Author.Tests.{leb-true, leb-false}
use Rattle.std.specs.Prelude.{Option, Some, None}
use Rattle.text.specs.Output.{Output, emit, filled_to}
use Rattle.text.proofs.Emit.{emit-none, emit-append, kept, emit-go, emit-stop}

-- ---- a text that fits: what was before it, the text, what was after it

emit-sets : (t b : List ℕ) (at : ℕ) → at + length t ≤ length b → emit t (b, Some at) ≡ (sets b at t, Some (at + length t))
emit-sets [] b at h = rw add-zero (emit-none (b, Some at))
emit-sets (x ∷ t) b at h =
    emit-go x t b at (omega arith)
    ∙ rw add-one (emit-sets t (set b at x) (suc at) (simp length-set (omega arith)) ∙ ap (λ (n : ℕ). (sets (set b at x) (suc at) t, Some n)) (omega arith))

pub emit-fits : (t b : List ℕ) (at : ℕ) → at + length t ≤ length b
    → emit t (b, Some at) ≡ (take at b ++ t ++ drop (at + length t) b, Some (at + length t))
emit-fits t b at h = emit-sets t b at h ∙ ap (λ (l : List ℕ). (l, Some (at + length t))) (sets-eq t b at h)

-- ---- one that does not: what was before it, and its beginning, as far as there is room

module _ (t b : List ℕ) (at : ℕ) (h : at ≤ length b) (l : length b < at + length t) where
  room : ℕ
  room = length b - at

  begun : List ℕ
  begun = take at b ++ take room t

  begun-length : length begun ≡ length b
  unfolding begun room
  begun-length = simp (length-append, length-take) (omega arith)

  emit-begun : emit (take room t) (b, Some at) ≡ (begun, Some (length b))
  unfolding begun room
  emit-begun =
      let long : length (take (length b - at) t) ≡ length b - at = length-take-le (length b - at) t (omega arith) in
      let end : at + length (take (length b - at) t) ≡ length b = omega (arith, long) in
      emit-fits (take (length b - at) t) b at (omega (arith, long)) ∙ rw (end, drop_of_length-le b {i = length b} (omega arith), append-nil)

  emit-rest : (u : List ℕ) → 0 < length u → emit u (begun, Some (length b)) ≡ (begun, None)
  emit-rest [] z = absurd (omega arith)
  emit-rest (x ∷ u) z = emit-stop x u begun (length b) (omega (arith, begun-length))

  pub emit-short : emit t (b, Some at) ≡ (take at b ++ take (length b - at) t, None)
  unfolding begun room
  emit-short =
      ap (λ (u : List ℕ). emit u (b, Some at)) (sym (take-append-drop room t)) ∙ emit-append (take room t) (drop room t) (b, Some at)
      ∙ ap (emit (drop room t)) emit-begun
      ∙ emit-rest (drop room t) (simp length-drop (omega arith))

-- ---- from the buffer's start on: as much of the text as there is room for, the rest as it was, and how many bytes that are filled

module _ (t b : List ℕ) {b' : List ℕ} {p : Option ℕ} (e : (b', p) ≡ emit t (b, Some 0)) where
  pub record Left : Type 0 where
    pub bytes : b' ≡ take (length b) t ++ drop (length t) b
    pub count : filled_to b' p ≡ min (length t) (length b)

  fits : length t ≤ length b → Left
  fits h =
      let start : 0 + length t ≡ length t = omega arith in
      let left = e ∙ emit-fits t b 0 (omega arith) in
      let cursor : p ≡ Some (length t) = ap (λ (o : Output). o.1) left ∙ rw start in
      record {
        bytes = ap (λ (o : Output). o.0) left ∙ rw (start, take_all (length b) t h);
        count = rw cursor (omega (arith, kept t (b, Some 0) e));
      }

  cut : length b < length t → Left
  cut h =
      let left = e ∙ emit-short t b 0 (omega arith) (omega arith) in
      let room : length b - 0 ≡ length b = omega arith in
      let cursor : p ≡ None = ap (λ (o : Output). o.1) left in
      record {
        bytes = ap (λ (o : Output). o.0) left ∙ rw (room, drop_of_length-le b {i = length t} (omega arith), append-nil);
        count = rw cursor (omega (arith, kept t (b, Some 0) e));
      }

  pub from_start : Left
  from_start = by (leb (length t) (length b)) refl
    where
      by : (x : Bool) → leb (length t) (length b) ≡ x → Left
      by true h = fits (leb-true (length t) (length b) h)
      by false h = cut (leb-false (length t) (length b) h)
