-- An accepted sheet: each of its fields can be filled where it starts, and a buffer that is filled field after field is filled.
-- Assumes nothing.
use mathlib.Core.Path.{◌≡◌, refl, ap}
use mathlib.Core.List.{List}
use Prim.Native.Nat.{ℕ, ◌+◌, ◌*◌, ◌^◌, ◌≤◌, ◌<◌}
use native.Mathlib.Nat.{le_of_lt}
use native.Mathlib.Omega.{arith}
use lib.ListN.{length}
use Rattle.bits.specs.Writes.{put}
use Rattle.sheet.specs.Blocks.{block_count, block_at, field_count}
use Rattle.blocks.proofs.Told.{stated-inside}
use Rattle.sheet.proofs.Blocks.{block-long}
use Rattle.sheet.proofs.SheetIs.{in_order, laid_out}
use Rattle.field.specs.Sound.{width_of}
use Rattle.field_blocks.specs.Step.{field_at}
use Rattle.field_blocks.proofs.SoundFields.{field-sound}
use Rattle.layout.specs.Layout.{HeaderField, field, start, width, Filled}
use Rattle.layout.proofs.Starts.{within}
use Rattle.layout.proofs.Filled.{filled_more}
use Rattle.header.specs.Starts.{default_number, header_layout, start_at, bits_of}
use Rattle.header.proofs.Starts.{layout-length, layout-field, layout-bits, layout-start, field-inside}
use Rattle.header.proofs.HeaderIs.{good-field}
use Rattle.definition.specs.Definition.{Accepted}
use Rattle.definition.proofs.Steps.{FiveSteps, five-steps, good-layout}
use Rattle.template.proofs.Filling.{span-inside}
use Rattle.template.specs.Working.{Fillable}

-- a field filled where it is known to start, with its known width and default
filled_at : (fs : List HeaderField) (i : ℕ) {b : List ℕ} (c : List ℕ) {s w d : ℕ} → start fs i ≡ s → width fs i ≡ w → (field fs i).default ≡ d
    → (field fs i).default < 2 ^ width fs i → start fs i + width fs i ≤ 8 * length b → Filled fs i b c → Filled fs (i + 1) b (put c s w d)
filled_at fs i c at wide holds fits room before = rw (← at, ← wide, ← holds) (filled_more fs i refl fits room before)

module _ (s : List ℕ) (ok : Accepted s) where
  steps : FiveSteps s
  steps = five-steps s ok

  module _ (i : ℕ) (h : i < field_count s) where
    pub fillable : (buf : List ℕ) → bits_of s ≤ 8 * length buf → Fillable buf (block_at s i) (field_at s i) (start_at s i)
    fillable buf room =
        let blocks = in_order s steps.sheet in
        let there : i < block_count s = omega (arith, blocks.no-others) in
        record {
          sound = field-sound s steps.fields i h;
          good = good-field s steps.fields steps.header i h;
          room = omega (arith, field-inside s i h);
          inside = λ span e. omega (arith, span-inside (block_at s i) (stated-inside (block_at s i) (blocks.f-first i h) (laid_out s steps.sheet i there)) span e, block-long s i there);
        }

    -- one field more
    pub filled_next : {b c : List ℕ} → bits_of s ≤ 8 * length b → Filled (header_layout s) i b c
        → Filled (header_layout s) (i + 1) b (put c (start_at s i) (width_of (field_at s i)) (default_number (block_at s i) (field_at s i).default))
    filled_next {b} {c} room before =
        let is = layout-field s i h in
        filled_at (header_layout s) i c (layout-start s i (le_of_lt h)) (ap (λ (f : HeaderField). f.width) is) (ap (λ (f : HeaderField). f.default) is)
        ((good-layout s ok).each i (rw (layout-length s) h)).default-fits
        (omega (arith, within (header_layout s) i, layout-bits s)) before
