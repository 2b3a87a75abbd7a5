-- Bytes in hex as words of lines, as the calls that write them leave them. Assumes nothing.
use mathlib.Core.Path.{◌≡◌, refl}
use mathlib.Core.List.{List, [], ◌∷◌}
use Prim.Native.Nat.{ℕ}
use native.Mathlib.Omega.{arith}
use lib.ListN.{length}
use Rattle.text.specs.Text.{hex, spaced}
use Rattle.text.specs.Output.{Output, emit}
use Rattle.text.proofs.Emit.{no_words, word, then}
use Rattle.lines.specs.Lines.{hex_word}

-- bytes in hex: no word where there are none, else one
pub no-hex : (s : List ℕ) {o : Output} → length s ≡ 0 → o ≡ emit (spaced (hex_word s)) o
no-hex [] h = no_words
no-hex (x ∷ s) h = absurd (omega arith)

pub some-hex : (s : List ℕ) (o : Output) {p q : Output} → (length s ≡ 0 → ⊥) → p ≡ emit (32 ∷ []) o → q ≡ emit (hex s) p → q ≡ emit (spaced (hex_word s)) o
some-hex [] o h e f = absurd (h refl)
some-hex (x ∷ s) o h e f = word _ [] o (then (32 ∷ []) (hex (x ∷ s)) o e f) no_words
