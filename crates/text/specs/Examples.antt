-- The definitions on examples, computed. Assumes nothing.
use Rattle.std.specs.Prelude.{◌≡◌, Some, None, refl, [], ◌∷◌}
use Rattle.text.specs.Text.{digits, decimal, hex, spaced, line, texts_n, texts}
use Rattle.text.specs.Output.{byte_to, emit}
use Rattle.octets.specs.Ascii.{ascii}

-- ---- text

least : decimal 0 ≡ ascii "0"
unfolding decimal digits
least = refl

two_digits : decimal 10 ≡ ascii "10"
unfolding decimal digits
two_digits = refl

most : decimal 18446744073709551615 ≡ ascii "18446744073709551615"
unfolding decimal digits
most = refl

in-hex : hex (0x41 ∷ 0x00 ∷ 0x0d ∷ 0xff ∷ []) ≡ ascii "41000dff"
unfolding hex
in-hex = refl

one_word : line (ascii "end") [] ≡ ascii "end\n"
unfolding line spaced
one_word = refl

three-words : line (ascii "header") (decimal 3 ∷ ascii "20" ∷ []) ≡ ascii "header 3 20\n"
unfolding line spaced decimal digits
three-words = refl

-- from 8 up to 11 there are 8, 9 and 10
three-texts : texts decimal 8 11 ≡ ascii "8910"
unfolding texts texts_n decimal digits
three-texts = refl

-- ---- a buffer: a text that fits to the last byte, and one that does not

fits : emit (1 ∷ 2 ∷ []) (9 ∷ 9 ∷ 9 ∷ [], Some 1) ≡ (9 ∷ 1 ∷ 2 ∷ [], Some 3)
unfolding emit byte_to
fits = refl

ends-early : emit (1 ∷ 2 ∷ 3 ∷ []) (9 ∷ 9 ∷ 9 ∷ [], Some 1) ≡ (9 ∷ 1 ∷ 2 ∷ [], None)
unfolding emit byte_to
ends-early = refl
