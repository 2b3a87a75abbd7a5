-- What the program was told of an accepted sheet: its counts, and the template in front of a buffer. Assumes nothing.
use Rattle.std.specs.Prelude.{Ok}
use mathlib.Core.Path.{◌≡◌, refl, sym, ap, ◌∙◌}
use mathlib.Core.List.{List}
use Prim.Native.Nat.{ℕ, zero, suc, ◌*◌, ◌/◌, ◌≤◌}
use native.Mathlib.Omega.{arith}
use lib.ListN.{length, drop, replicate}
use lib.Seq.{slice, take_at}
use Rattle.answer.specs.declared.Refusal.{Refusal}
use Rattle.answer.specs.Paper.{accepted, group_of, number_of, place_of, refusal_says}
use Rattle.octets.specs.Octets.{AreBytes}
use Rattle.sheet.specs.declared.Counts.{Counts}
use Rattle.sheet.specs.Blocks.{block_count, counts_of}
use Rattle.sheet.proofs.SheetIs.{in_order}
use Rattle.layout.specs.Layout.{bits, template}
use Rattle.layout.proofs.Filled.{template-only, template-size, template-in}
use Rattle.header.specs.Starts.{header_layout}
use Rattle.header.specs.Step.{header_bytes}
use Rattle.header.proofs.Starts.{layout-length}
use Rattle.definition.specs.Definition.{Accepted}
use Rattle.definition.proofs.Steps.{five-steps, layout-whole, good-layout}
use Rattle.template.specs.Template.{template_check, TemplateBuilt}
use Rattle.template.proofs.Built.{room-is}
use Rattle.lines.specs.Lines.{refusal_line}
use Rattle.listing.specs.Listing.{listing, text_of, printed}

pub zero-bytes : (n : ℕ) → AreBytes (replicate n 0)
zero-bytes zero i = omega arith
zero-bytes (suc n) zero = omega arith
zero-bytes (suc n) (suc i) = zero-bytes n i

module _ (s : List ℕ) where
  -- ---- the counts

  pub counts-small : {n : Counts} → Accepted s → n ≡ counts_of s (block_count s) → (n.fields ≤ 64) × (n.lengths ≤ 3) × (n.conds ≤ 32)
  counts-small ok is =
      let blocks = in_order s (five-steps s ok).sheet in
      rw is (blocks.most-fields, blocks.most-lengths, blocks.most-conds)

  -- ---- the text, by the answer to the template

  pub text-accepted : template_check s 8192 ≡ accepted → listing s ≡ printed s
  unfolding printed
  text-accepted e = sym (ap (text_of s) e)

  pub text-refused : (r : Refusal) → refusal_says r ≡ template_check s 8192 → refusal_line (group_of r) (number_of r) (place_of r) ≡ printed s
  unfolding printed
  text-refused r e = ap (text_of s) e

  -- ---- the template

  module _ (ok : Accepted s) where
    -- it is as long as the header
    pub template-bytes : length (template (header_layout s)) ≡ header_bytes s
    template-bytes = omega (arith, layout-whole s ok, template-size (header_layout s) (good-layout s ok))

  -- the one that was built
  module _ {b b' : List ℕ} (bytes : AreBytes b) (built : TemplateBuilt s b b' (Ok tt)) where
    checked : Accepted s × (header_bytes s ≤ length b)
    checked = (room-is s (length b)).0 (sym built.answer)

    -- it is in front of the buffer
    pub built-front : slice 0 (header_bytes s) b' ≡ template (header_layout s)
    built-front =
        let fs = header_layout s in
        let ok-fields = good-layout s checked.0 in
        let room : bits fs ≤ 8 * length b = omega (arith, layout-whole s checked.0, checked.1) in
        let filled = rw (← (layout-length s)) at (built.filled refl) in
        let bytes-are = template-only fs ok-fields b b' room filled ∙ template-in fs ok-fields b bytes room in
        rw bytes-are (take_at (template fs) (drop (bits fs / 8) b) (header_bytes s) (template-bytes checked.0))
