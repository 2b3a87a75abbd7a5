-- Laws of writing: texts one after another, the words of a line, and the walks of loops that write. For this crate's proofs and those of the crates
-- above. Assumes nothing.
use mathlib.Core.Path.{◌≡◌, refl, sym, ap, ◌∙◌}
use mathlib.Core.Bool.{Bool, true, false, cond}
use mathlib.Core.List.{List, [], ◌∷◌, ◌++◌}
use Prim.Native.Nat.{ℕ, suc, ◌+◌, ◌-◌, ◌/◌, ◌%◌, ◌≤◌, ◌<◌}
use native.Mathlib.Numerals.{add-one}
use native.Mathlib.Omega.{arith}
use lib.Dec.{ltb}
use lib.ListN.{length, set, drop, get_or, length-set, drop_of_length-le}
use lib.Seq.{drop-cons}
use borrow.Author.Tests.{lt-ltb, le-ltb}
use Rattle.text.specs.Text.{hex_digit, hex, spaced, line, texts_n, texts}
use Rattle.std.specs.Prelude.{Option, Some, None}
use Rattle.text.specs.Output.{Output, byte_to, emit}

-- ---- one text after another

pub emit-none : (o : Output) → emit [] o ≡ o
unfolding emit
emit-none o = refl

pub emit-append : (s t : List ℕ) (o : Output) → emit (s ++ t) o ≡ emit t (emit s o)
unfolding emit
emit-append [] t o = refl
emit-append (x ∷ s) t o = emit-append s t (byte_to x o.0 o.1)

-- the same, of what two calls left
pub then : (s t : List ℕ) (o : Output) {p q : Output} → p ≡ emit s o → q ≡ emit t p → q ≡ emit (s ++ t) o
then s t o e f = f ∙ ap (emit t) e ∙ sym (emit-append s t o)

-- ---- a line, word by word

pub emit-no-words : (o : Output) → emit (spaced []) o ≡ o
unfolding spaced
emit-no-words o = emit-none o

pub emit-words : (w : List ℕ) (ws : List (List ℕ)) (o : Output) → emit (spaced (w ∷ ws)) o ≡ emit (spaced ws) (emit (32 ∷ w) o)
unfolding spaced
emit-words w ws o = emit-append (32 ∷ w) (spaced ws) o

pub emit-line : (w : List ℕ) (ws : List (List ℕ)) (o : Output) → emit (line w ws) o ≡ emit (10 ∷ []) (emit (spaced ws) (emit w o))
unfolding line
emit-line w ws o = emit-append w (spaced ws ++ 10 ∷ []) o ∙ emit-append (spaced ws) (10 ∷ []) (emit w o)

-- the same, of what the calls of a line left: no further word; a further word, and those after it; the whole line
pub no_words : {o : Output} → o ≡ emit (spaced []) o
no_words {o} = sym (emit-no-words o)

pub word : (w : List ℕ) (ws : List (List ℕ)) (o : Output) {p q : Output} → p ≡ emit (32 ∷ w) o → q ≡ emit (spaced ws) p → q ≡ emit (spaced (w ∷ ws)) o
word w ws o e f = f ∙ ap (emit (spaced ws)) e ∙ sym (emit-words w ws o)

pub ended : (w : List ℕ) (ws : List (List ℕ)) (o : Output) {p q r : Output}
    → p ≡ emit w o → q ≡ emit (spaced ws) p → r ≡ emit (10 ∷ []) q → r ≡ emit (line w ws) o
ended w ws o e f g = g ∙ ap (emit (10 ∷ [])) (f ∙ ap (emit (spaced ws)) e) ∙ sym (emit-line w ws o)

-- ---- the buffer keeps its length

byte-kept : (x : ℕ) (b : List ℕ) (p : Option ℕ) → length (byte_to x b p).0 ≡ length b
unfolding byte_to
byte-kept x b None = refl
byte-kept x b (Some at) = by (ltb at (length b))
  where
    by : (t : Bool) → length (cond {A = Output} t (set b at x, Some (at + 1)) (b, None)).0 ≡ length b
    by true = length-set b at x
    by false = refl

emit-kept : (t : List ℕ) (o : Output) → length (emit t o).0 ≡ length o.0
unfolding emit
emit-kept [] o = refl
emit-kept (x ∷ t) o = emit-kept t (byte_to x o.0 o.1) ∙ byte-kept x o.0 o.1

-- the same, of what a call left
pub kept : (t : List ℕ) (o : Output) {b : List ℕ} {p : Option ℕ} → (b, p) ≡ emit t o → length b ≡ length o.0
kept t o e = ap (λ (q : Output). length q.0) e ∙ emit-kept t o

-- ---- the next byte of a text: within the buffer, at its end, and past that

pub emit-go : (x : ℕ) (t b : List ℕ) (at : ℕ) → at < length b → emit (x ∷ t) (b, Some at) ≡ emit t (set b at x, Some (at + 1))
unfolding emit byte_to
emit-go x t b at h = rw (lt-ltb at (length b) h)

pub emit-full : (t b : List ℕ) → emit t (b, None) ≡ (b, None)
unfolding emit byte_to
emit-full [] b = refl
emit-full (x ∷ t) b = emit-full t b

pub emit-stop : (x : ℕ) (t b : List ℕ) (at : ℕ) → length b ≤ at → emit (x ∷ t) (b, Some at) ≡ (b, None)
unfolding emit byte_to
emit-stop x t b at h = rw (le-ltb at (length b) h) (emit-full t b)

-- ---- the walk of a loop: what is left of a text, from the i-th byte on

module _ (s : List ℕ) (i : ℕ) where
  pub rest-none : length s ≤ i → (o : Output) → emit (drop i s) o ≡ o
  rest-none h o = rw (drop_of_length-le s h) (emit-none o)

  pub rest-go : i < length s → (b : List ℕ) (at : ℕ) → at < length b
      → emit (drop i s) (b, Some at) ≡ emit (drop (i + 1) s) (set b at (get_or s i 0), Some (at + 1))
  rest-go h b at l = rw (add-one i, drop-cons s i 0 h, emit-go (get_or s i 0) (drop (suc i) s) b at l)

  pub rest-stop : i < length s → (b : List ℕ) (at : ℕ) → length b ≤ at → emit (drop i s) (b, Some at) ≡ (b, None)
  rest-stop h b at l = rw (drop-cons s i 0 h) (emit-stop (get_or s i 0) (drop (suc i) s) b at l)

-- the same in hex
module _ (s : List ℕ) (i : ℕ) where
  pub hex-none : length s ≤ i → (o : Output) → emit (hex (drop i s)) o ≡ o
  unfolding hex
  hex-none h o = rw (drop_of_length-le s h) (emit-none o)

  pub hex-go : i < length s → (o : Output)
      → emit (hex (drop i s)) o ≡ emit (hex (drop (i + 1) s)) (emit (hex_digit (get_or s i 0 / 16) ∷ hex_digit (get_or s i 0 % 16) ∷ []) o)
  unfolding emit hex
  hex-go h o = rw (add-one, drop-cons s i 0 h)

-- and of texts: what is left of them from the i-th on
module _ (f : ℕ → List ℕ) (i e : ℕ) where
  pub texts-none : e ≤ i → (o : Output) → emit (texts f i e) o ≡ o
  unfolding texts texts_n
  texts-none h o = rw none (emit-none o)
    where
      none : e - i ≡ 0
      none = omega arith

  pub texts-go : i < e → (o : Output) → emit (texts f i e) o ≡ emit (texts f (i + 1) e) (emit (f i) o)
  unfolding texts texts_n
  texts-go h o = rw more (emit-append (f i) (texts_n f (i + 1) (e - (i + 1))) o)
    where
      more : e - i ≡ suc (e - (i + 1))
      more = omega arith
