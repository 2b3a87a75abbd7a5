-- Step 3 accepts exactly the sheets of `HeaderIs`, and the header of a sheet that passes steps 2 and 3 is good, so that demand 3 of docs/RULES.md holds of
-- it. Of a field's tests it is said exactly when they pass, by the record `FieldIs`. Assumes nothing.
use mathlib.Core.Path.{◌≡◌, refl}
use mathlib.Core.Bool.{false}
use mathlib.Core.List.{List}
use mathlib.Core.Logic.Iff
use mathlib.Core.Logic.{⊎_elim, ◌↔◌}
use Prim.Native.Nat.{ℕ, zero, suc, ◌+◌, ◌-◌, ◌*◌, ◌/◌, ◌%◌, ◌^◌, ◌≤◌, ◌<◌}
use native.Mathlib.Nat.{lt_of_lt_of_le}
use native.Mathlib.Decide.{dec_le}
use native.Mathlib.Numerals.{add-one}
use native.Mathlib.Omega.{arith}
use lib.ListN.{length, take, length-take, length-drop}
use lib.Pow.{pow_mono}
use lib.Seq.{slice}
use Rattle.answer.specs.Paper.{gives, accepted}
use Rattle.answer.proofs.Chains.{both_is, refuse-is, each-is}
use Rattle.answer.proofs.Tests.{unless-is, not_is, leb-is, ltb-is-not, eqb_is}
use Rattle.octets.proofs.Octets.{same-is-not}
use Rattle.number.specs.Numbers.{max_bytes}
use Rattle.bits.specs.Bits.{touched, spelled}
use Rattle.bits.specs.Positions.{end_pos}
use Rattle.bits.proofs.Bits.{value-lt}
use Rattle.bits.proofs.Positions.{end-at}
use Rattle.sheet.specs.Blocks.{block_at, field_count}
use Rattle.types.specs.declared.BuiltinTypes.{BuiltinTypes}
use Rattle.types.specs.Types.{is_slice}
use Rattle.types.proofs.CodesAndNames.{same-type, other-type, slice-holds-is}
use Rattle.field.specs.declared.Field.{Field}
use Rattle.field.specs.declared.DefaultVal.{DefaultVal}
use Rattle.field.specs.Sound.{Sound, width_of}
use Rattle.field_blocks.specs.Step.{field_at, fields_check}
use Rattle.field_blocks.proofs.SoundFields.{field-sound}
use Rattle.layout.specs.Layout.{GoodField, Good}
use Rattle.layout.specs.Demand.{Demand}
use Rattle.layout.proofs.Indexed.{position-none, position-more, good-listed}
use Rattle.layout.proofs.Demand.{demand}
use Rattle.header.specs.Names.{name_at, type_word}
use Rattle.header.specs.Starts.{default_number, header_field_at, header_layout, start_at, bits_of}
use Rattle.header.specs.Step.{header_fault, header_check}
use Rattle.header.specs.HeaderIs.{HeaderIs}
use Rattle.header.proofs.Names.{none_named}
use Rattle.header.proofs.Starts.{field-inside}

-- ---- the tests of one field

-- what they ask, said of the field
record FieldIs (s : List ℕ) (i : ℕ) : Type 0 where
  own_name : (j : ℕ) → j < i → name_at s j ≡ name_at s i → ⊥
  not-type : name_at s i ≡ type_word → ⊥
  eight-bytes : width_of (field_at s i) ≤ 64 → touched (start_at s i) (width_of (field_at s i)) ≤ 8
  on-boundary : (field_at s i).repr ≡ BuiltinTypes.ByteSlice → start_at s i % 8 ≡ 0
  short : (start_at s i + width_of (field_at s i)) / 8 ≤ max_bytes

field_is : (s : List ℕ) (i : ℕ) → (header_fault s i ≡ accepted) ↔ FieldIs s i
unfolding header_fault
field_is s i = simp (both_is, refuse-is, none_named, same-is-not, unless-is, not_is, slice-holds-is, leb-is, ltb-is-not, eqb_is) (
  λ p. record { own_name = p.0; not-type = p.1.0; eight-bytes = p.1.1.0; on-boundary = p.1.1.1.0; short = p.1.1.1.1 },
  λ f. (f.own_name, (f.not-type, (f.eight-bytes, (f.on-boundary, f.short)))),
)

-- header 5, past one field
pub short-field : (s : List ℕ) (i : ℕ) → header_fault s i ≡ accepted → (start_at s i + width_of (field_at s i)) / 8 ≤ max_bytes
short-field s i e = ((field_is s i).0 e).short

-- ---- the step

module _ (s : List ℕ) where
  -- field after field, then whole bytes
  checks-are : (header_check s ≡ accepted) ↔ (((i : ℕ) → i < field_count s → FieldIs s i) × (bits_of s % 8 ≡ 0))
  unfolding header_check
  checks-are = simp (both_is, refuse-is, each-is, field_is, not_is, eqb_is) Iff.rfl

  -- header 5 of the last field is that of the header
  short : ((i : ℕ) → i < field_count s → FieldIs s i) → (n : ℕ) → n ≤ field_count s → start_at s n / 8 ≤ max_bytes
  short each zero h = rw (position-none (header_field_at s)) (omega arith)
  short each (suc n) h = rw (← (add-one n), position-more (header_field_at s) n) (each n h).short

  pub header_is : (header_check s ≡ accepted) ↔ HeaderIs s
  header_is = simp checks-are (
    λ p. record {
      own-names = λ i j l h. (p.0 j h).own_name i l;
      not-type = λ i h. (p.0 i h).not-type;
      eight-bytes = λ i h. (p.0 i h).eight-bytes;
      on-boundary = λ i h. (p.0 i h).on-boundary;
      whole = p.1;
      most = short p.0 (field_count s) (omega arith);
    },
    λ l. (
      λ i h. record {
        own_name = λ j b. l.own-names j i b h;
        not-type = l.not-type i h;
        eight-bytes = l.eight-bytes i h;
        on-boundary = l.on-boundary i h;
        short = omega (arith, field-inside s i h, l.most);
      },
      l.whole,
    ),
  )

-- ---- past steps 2 and 3 the header is good

-- bytes of which at most w bits are stated spell a number within w bits
stated-fit : (b : List ℕ) (at len w : ℕ) → 8 * len ≤ w → spelled (slice at (at + len) b) < 2 ^ w
stated-fit b at len w h =
    let l = slice at (at + len) b in
    let few : 8 * length l ≤ w = omega (arith, length-drop at (take (at + len) b), length-take (at + len) b) in
    lt_of_lt_of_le (value-lt l 0 (8 * length l)) (pow_mono {i = 8 * length l} {j = w} few)

-- what is known of a default, by its case
module _ (b : List ℕ) (f : Field) (sound : Sound f) where
  fits : (d : DefaultVal) → f.default ≡ d → default_number b d < 2 ^ width_of f
  fits (DefaultVal.Num n) e = sound.number_fits n e
  fits (DefaultVal.Bool t) e = absurd (sound.no-bool-default t e)
  fits (DefaultVal.Bytes span) e =
      stated-fit b span.at span.len (width_of f) (⊎_elim (λ q. omega (arith, q)) (λ q. omega (arith, q)) (sound.bytes_count span e))

  not-fixed : f.repr ≡ BuiltinTypes.ByteSlice → (d : DefaultVal) → f.default ≡ d → f.fixed ≡ false
  not-fixed r (DefaultVal.Num n) e = absurd (sound.number-field n e r)
  not-fixed r (DefaultVal.Bool t) e = absurd (sound.no-bool-default t e)
  not-fixed r (DefaultVal.Bytes span) e = sound.bytes-free span e

  -- what is no byte slice has at most 64 bits
  narrow : is_slice f.repr ≡ false → width_of f ≤ 64
  narrow e = go (dec_le (width_of f) 64)
    where
      go : Dec (width_of f ≤ 64) → width_of f ≤ 64
      go (yes h) = h
      go (no h) = absurd (other-type f.repr BuiltinTypes.ByteSlice e (sound.wide-is-slice (omega arith)))

module _ (s : List ℕ) (fields-ok : fields_check s ≡ accepted) (header_ok : header_check s ≡ accepted) where
  pub good-field : (i : ℕ) → i < field_count s → GoodField (start_at s i) (header_field_at s i)
  good-field i h =
      let f = field_at s i in
      let sound = field-sound s fields-ok i h in
      let is_Slice = same-type f.repr BuiltinTypes.ByteSlice in
      record {
        some = sound.some_bits;
        default-fits = fits (block_at s i) f sound f.default refl;
        number = λ e. ((header_is s).0 header_ok).eight-bytes i h (narrow (block_at s i) f sound e);
        boundary = λ e. ((header_is s).0 header_ok).on-boundary i h (is_Slice e);
        two_bytes = λ e. sound.slice-bits (is_Slice e);
        whole-bytes = λ e. sound.slice-whole (is_Slice e);
        free = λ e. not-fixed (block_at s i) f sound (is_Slice e) f.default refl;
      }

  pub good : Good (header_layout s)
  unfolding header_layout
  good = let laid = (header_is s).0 header_ok in good-listed (header_field_at s) (field_count s) good-field laid.whole (omega (arith, laid.whole, laid.most))

  -- each field ends with its last bit
  pub field_end : (i : ℕ) → i < field_count s → end_pos (start_at s i) (width_of (field_at s i)) ≡ gives (start_at s i + width_of (field_at s i) - 1)
  field_end i h =
      let some = (good-field i h).some in
      let short = ((header_is s).0 header_ok).most in
      end-at (start_at s i) (width_of (field_at s i)) (λ e. omega arith) (omega (arith, field-inside s i h))

  -- so demand 3 holds of it
  pub demanded : Demand (header_layout s)
  demanded = demand (header_layout s) good
