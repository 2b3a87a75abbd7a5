-- What the calls that write a listing leave: the walk over the ranges of a condition, and each line from what it was made of. Assumes nothing.
use mathlib.Core.Path.{◌≡◌, refl, sym, ap, ◌∙◌}
use mathlib.Core.List.{List, [], ◌∷◌, ◌++◌, append_assoc}
use Prim.Native.Nat.{ℕ, suc, ◌+◌, ◌-◌, ◌<◌, ◌≤◌}
use native.Mathlib.Omega.{arith}
use Rattle.text.specs.Text.{spaced, texts}
use Rattle.text.specs.Output.{Output, emit}
use Rattle.text.proofs.Emit.{emit-append, emit-no-words}
use Rattle.sheet.specs.declared.Counts.{Counts}
use Rattle.sheet.specs.Blocks.{block_count, counts_of, field_count, cond_count}
use Rattle.field.specs.declared.Field.{Field}
use Rattle.field_blocks.specs.Step.{field_at}
use Rattle.layout.specs.Layout.{template}
use Rattle.header.specs.declared.Header.{Header}
use Rattle.header.specs.Names.{name_at}
use Rattle.header.specs.Starts.{start_at, header_layout}
use Rattle.header.specs.Step.{header_bytes, header_of}
use Rattle.cond.specs.Step.{range_numbers}
use Rattle.lines.specs.Lines.{header_line, field_line, template_line, range_words}
use Rattle.listing.specs.Listing.{field_text, ranges_from, cond_text, first_cond}

-- words and then words
pub spaced-append : (ws vs : List (List ℕ)) → spaced (ws ++ vs) ≡ spaced ws ++ spaced vs
unfolding spaced
spaced-append [] vs = refl
spaced-append (w ∷ ws) vs = ap (λ (t : List ℕ). (32 ∷ w) ++ t) (spaced-append ws vs) ∙ sym (append_assoc (32 ∷ w) (spaced ws) (spaced vs))

module _ (s : List ℕ) (i j e : ℕ) (o : Output) where
  pub ranges-none : e ≤ j → emit (spaced (ranges_from s i j (e - j))) o ≡ o
  unfolding ranges_from
  ranges-none h = let z : e - j ≡ 0 = omega arith in rw z (emit-no-words o)

  pub ranges-go : j < e
      → emit (spaced (ranges_from s i j (e - j))) o ≡ emit (spaced (ranges_from s i (j + 1) (e - (j + 1)))) (emit (spaced (range_words (range_numbers s i j))) o)
  unfolding ranges_from
  ranges-go h =
      let z : e - j ≡ suc (e - (j + 1)) = omega arith in
      let one = range_words (range_numbers s i j) in
      let rest = ranges_from s i (j + 1) (e - (j + 1)) in
      rw z (ap (λ (t : List ℕ). emit t o) (spaced-append one rest) ∙ emit-append (spaced one) (spaced rest) o)

-- ---- the line of field i, from where it starts, what it is and its name

pub field-wrote : (s : List ℕ) (i : ℕ) (o : Output) {start : ℕ} {f : Field} {name : List ℕ} {p : Output}
    → start ≡ start_at s i → f ≡ field_at s i → name ≡ name_at s i → p ≡ emit (field_line i start f name) o → p ≡ emit (field_text s i) o
field-wrote s i o {start} {f} {name} starts is called e =
    e
    ∙ ap (λ (k : ℕ). emit (field_line i k f name) o) starts
    ∙ ap (λ (g : Field). emit (field_line i (start_at s i) g name) o) is
    ∙ ap (λ (n : List ℕ). emit (field_line i (start_at s i) (field_at s i) n) o) called

-- ---- the other lines, from what the program was told of the sheet

module _ (s : List ℕ) (o : Output) {p : Output} where
  pub header-wrote : {h : Header} → h ≡ header_of s → p ≡ emit (header_line h.len.0) o → p ≡ emit (header_line (header_bytes s)) o
  header-wrote is e = e ∙ ap (λ (h : Header). emit (header_line h.len.0) o) is

  pub template-wrote : {t : List ℕ} → t ≡ template (header_layout s) → p ≡ emit (template_line t) o → p ≡ emit (template_line (template (header_layout s))) o
  template-wrote is e = e ∙ ap (λ (t : List ℕ). emit (template_line t) o) is

  module _ {n : Counts} (counted : n ≡ counts_of s (block_count s)) where
    pub fields-wrote : p ≡ emit (texts (field_text s) 0 n.fields) o → p ≡ emit (texts (field_text s) 0 (field_count s)) o
    fields-wrote e = e ∙ ap (λ (n : Counts). emit (texts (field_text s) 0 n.fields) o) counted

    pub conds-wrote : p ≡ emit (texts (cond_text s) (n.fields + n.lengths) (n.fields + n.lengths + n.conds)) o
        → p ≡ emit (texts (cond_text s) (first_cond s) (first_cond s + cond_count s)) o
    conds-wrote e = e ∙ ap (λ (n : Counts). emit (texts (cond_text s) (n.fields + n.lengths) (n.fields + n.lengths + n.conds)) o) counted
