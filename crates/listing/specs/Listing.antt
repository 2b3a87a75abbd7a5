-- The lister's text of any bytes as a sheet. Assumes nothing.
use Rattle.std.specs.Prelude.{◌≡◌, List, [], ◌∷◌, ◌++◌, ℕ, zero, suc, ◌+◌, min, length, take, drop}
use Rattle.text.specs.Text.{line, texts}
use Rattle.answer.specs.Paper.{Check, gives, refused}
use Rattle.answer.specs.Walk.{or_zero}
use Rattle.sheet.specs.Blocks.{block_at, field_count, length_count, cond_count}
use Rattle.field_blocks.specs.Step.{field_at}
use Rattle.layout.specs.Layout.{template}
use Rattle.header.specs.Names.{name_at}
use Rattle.header.specs.Starts.{start_at, header_layout}
use Rattle.header.specs.Step.{header_bytes}
use Rattle.slots.specs.Slots.{block_of_slot, length_field}
use Rattle.length.specs.Step.{largest_length}
use Rattle.cond.specs.Step.{range_numbers}
use Rattle.template.specs.Template.{template_check}
use Rattle.lines.specs.Lines.{refusal_line, header_line, field_line, template_line, length_line, range_words}
use Rattle.octets.specs.Ascii.{ascii}
use Rattle.blocks.specs.Layout.{range_count}

-- ---- the lines of an accepted sheet

-- field i
abbrev pub field_text : List ℕ → ℕ → List ℕ
field_text s i = field_line i (start_at s i) (field_at s i) (name_at s i)

-- a length slot; its name is that of the field in its block
abbrev pub slot_text : List ℕ → ℕ → List ℕ
slot_text s slot = length_line slot (name_at s (or_zero (block_of_slot s slot))) (largest_length s slot) (length_field s slot)

-- the condition in block i: its name, then first and last of each range from the j-th on
unfoldable pub ranges_from : List ℕ → ℕ → ℕ → ℕ → List (List ℕ)
ranges_from s i j zero = []
ranges_from s i j (suc n) = range_words (range_numbers s i j) ++ ranges_from s i (j + 1) n

unfoldable pub cond_text : List ℕ → ℕ → List ℕ
cond_text s i = line (ascii "cond") (name_at s i ∷ ranges_from s i 0 (range_count (block_at s i)))

-- C blocks come after all others
abbrev pub first_cond : List ℕ → ℕ
first_cond s = field_count s + length_count s

-- the header, its fields, the template, the lengths in slot order, the conditions in the sheet's
unfoldable pub listing : List ℕ → List ℕ
listing s =
    header_line (header_bytes s)
    ++ (texts (field_text s) 0 (field_count s)
    ++ (template_line (template (header_layout s))
    ++ (slot_text s 0
    ++ (slot_text s 1
    ++ (slot_text s 2
    ++ texts (cond_text s) (first_cond s) (first_cond s + cond_count s))))))

-- ---- what is printed: the listing, or the line of a refusal. The template goes into a buffer of 8,192 bytes

abbrev pub text_of : List ℕ → Check → List ℕ
text_of s (gives _) = listing s
text_of s (refused group number place) = refusal_line group number place

unfoldable pub printed : List ℕ → List ℕ
printed s = text_of s (template_check s 8192)

-- the text at the front of a buffer b, as far as there is room, with the rest of b as it was: the bytes b' after it, and how many of them the text has
pub record Listed (s b b' : List ℕ) (r : ℕ) : Type 0 where
  pub bytes : b' ≡ take (length b) (printed s) ++ drop (length (printed s)) b
  pub count : r ≡ min (length (printed s)) (length b)

-- the text at the front of a buffer b, whole, with the rest of b as it was: the bytes b' after it, and how many of them the text has
pub record WholeListed (s b b' : List ℕ) (r : ℕ) : Type 0 where
  pub bytes : b' ≡ printed s ++ drop (length (printed s)) b
  pub count : r ≡ length (printed s)

-- the text of an input s, of which n bytes were read into an array a: all of s, or of an s that is longer than a its front
pub record InputListed (a : List ℕ) (n : ℕ) (b b' : List ℕ) (r : ℕ) : Type 0 where
  pub whole : (s : List ℕ) → take (length a) s ≡ take n a → WholeListed s b b' r
