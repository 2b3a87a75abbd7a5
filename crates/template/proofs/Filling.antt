-- What filling one field asks: the bytes that a default states lie in its block, and what is written, a number or bytes or zeros, is the `put` of the
-- default into the field's run. Assumes nothing.
use Rattle.std.specs.Prelude.{Some, None}
use mathlib.Core.Path.{◌≡◌, refl, sym, ap, ◌∙◌}
use mathlib.Core.Bool.{Bool, true, false, cond}
use mathlib.Core.List.{List}
use mathlib.Core.Logic.{◌⊎◌, inl, inr, ⊎_elim}
use Prim.Native.Nat.{ℕ, ◌+◌, ◌*◌, ◌/◌, ◌≤◌}
use native.Mathlib.Omega.{arith}
use lib.Dec.{eqb, lit≤}
use lib.ListN.{length, take, length-take, length-drop}
use lib.Seq.{slice}
use Rattle.bits.specs.Bits.{num, value, spelled}
use Rattle.bits.specs.Writes.{put}
use Rattle.bits.specs.Runs.{RunCheck, NumberWritten, BytesWritten}
use Rattle.bits.proofs.Writes.{number_put, bytes-put}
use Rattle.blocks.specs.Layout.{check_at, stated_bits, stated_default_kind, stated_fixed, stated_number, stated_count, stated_bytes_at}
use Rattle.types.specs.declared.BuiltinTypes.{BuiltinTypes}
use Rattle.types.specs.Types.{is_slice}
use Rattle.types.proofs.CodesAndNames.{same-type}
use Rattle.field.specs.declared.Span.{Span}
use Rattle.field.specs.declared.DefaultVal.{DefaultVal}
use Rattle.field.specs.declared.Field.{Field}
use Rattle.field.specs.Sound.{width_of}
use Rattle.field.specs.Fields.{no_bytes, repr_of, default_of}
use Rattle.field_blocks.specs.OnBlock.{repr_in, value_in, resolved_in}
use Rattle.header.specs.Starts.{default_number}
use Rattle.template.specs.Working.{Fillable}

-- ---- the bytes that a default states

-- none: they spell 0
pub none-stated : (b : List ℕ) (at len : ℕ) → len ≡ 0 → spelled (slice at (at + len) b) ≡ 0
unfolding num
none-stated b at len e =
    let l = slice at (at + len) b in
    let none : length l ≡ 0 = omega (arith, length-drop at (take (at + len) b), length-take (at + len) b) in
    ap (λ (n : ℕ). value l 0 (8 * n)) none

-- those of a block end before its check: an absent default states none, one of bytes those that are counted, and no other is bytes
module _ (b : List ℕ) (few : stated_bytes_at + stated_count b ≤ check_at) (span : Span) where
  abbrev Inside : DefaultVal → Type 0
  Inside d = d ≡ DefaultVal.Bytes span → span.at + span.len ≤ check_at

  -- of two defaults, whichever it is
  either-inside : (test : Bool) (d e : DefaultVal) → Inside d → Inside e → Inside (cond test d e)
  either-inside true d e p q = p
  either-inside false d e p q = q

  span-within : (at len : ℕ) → at + len ≤ check_at → Inside (DefaultVal.Bytes (record { at = at; len = len }))
  span-within at len h e = let same : record { at = at; len = len } ≡ span = cc in rw (← same) h

  number-within : (n : ℕ) → Inside (DefaultVal.Num n)
  number-within n e = absurd (let z : ◌≡◌ {A = ℕ} 0 1 = cc in omega arith)

  flag-within : (t : Bool) → Inside (DefaultVal.Bool t)
  flag-within t e = absurd (let z : ◌≡◌ {A = ℕ} 0 1 = cc in omega arith)

  pub span-inside : Inside (resolved_in b).default
  span-inside = by_kind (eqb (stated_default_kind b) 0)
    where
      by_kind : (absent : Bool) → Inside (default_of (repr_of (stated_bits b) (repr_in b)) (cond absent None (Some (value_in b, eqb (stated_fixed b) 1))))
      by_kind true = either-inside (is_slice (repr_of (stated_bits b) (repr_in b))) (DefaultVal.Bytes no_bytes) (DefaultVal.Num 0) (span-within 0 0 (lit≤ tt)) (number-within 0)
      by_kind false =
          either-inside (eqb (stated_default_kind b) 1) (DefaultVal.Num (stated_number b)) _ (number-within (stated_number b))
          (either-inside (eqb (stated_default_kind b) 2) (DefaultVal.Bytes (record { at = stated_bytes_at; len = stated_count b })) _ (span-within stated_bytes_at (stated_count b) few) (flag-within (eqb (stated_number b) 1)))

-- as many as the run has: the run holds what they spell
pub stated-filled : {buf c part stated : List ℕ} {f n : ℕ} {r : RunCheck} → part ≡ stated → length stated ≡ n → f + n ≤ length buf
    → BytesWritten buf c (length buf) f (length part) (spelled part) r → c ≡ put buf (8 * f) (8 * n) (spelled stated)
stated-filled {buf} {stated = stated} {f} {n} same count room w =
    bytes-put (rw (same, count) room) (omega arith) w ∙ ap (λ (l : List ℕ). put buf (8 * f) (8 * length l) (spelled l)) same
    ∙ ap (λ (m : ℕ). put buf (8 * f) (8 * m) (spelled stated)) count

-- ---- a field that can be filled, by the kind of its default

module _ {buf b : List ℕ} {f : Field} {s : ℕ} (h : Fillable buf b f s) where
  -- a number, which touches at most 8 bytes
  module _ (v : ℕ) (e : f.default ≡ DefaultVal.Num v) where
    no-slice : (t : Bool) → is_slice f.repr ≡ t → t ≡ false
    no-slice true q = absurd (h.sound.number-field v e (same-type f.repr BuiltinTypes.ByteSlice q))
    no-slice false q = refl

    pub number-filled : {c : List ℕ} {at : ℕ} {r : RunCheck} → at ≡ s → NumberWritten buf c (length buf) at (width_of f) v r → c ≡ put buf s (width_of f) (default_number b f.default)
    number-filled at-start w =
        number_put (h.good.number (no-slice (is_slice f.repr) refl)) h.room (omega arith) (h.sound.number_fits v e) (rw at-start at w)
        ∙ ap (λ (d : DefaultVal). put buf s (width_of f) (default_number b d)) (sym e)

  -- bytes, which start at a byte and are whole
  module _ (span : Span) (e : f.default ≡ DefaultVal.Bytes span) {from count : ℕ} (from_is : from ≡ s / 8) (count-is : count ≡ width_of f / 8) where
    of-slice : is_slice f.repr ≡ true
    of-slice = ap is_slice (h.sound.bytes-field span e)

    first_byte : 8 * from ≡ s
    first_byte = omega (arith, h.good.boundary of-slice)

    all-bytes : 8 * count ≡ width_of f
    all-bytes = omega (arith, h.good.whole-bytes of-slice)

    pub bytes-room : from + count ≤ length buf
    bytes-room = omega (arith, h.room, first_byte, all-bytes)

    pub bytes_counted : (span.len ≡ count) ⊎ (span.len ≡ 0)
    bytes_counted = ⊎_elim (λ q. inl (q ∙ sym count-is)) inr (h.sound.bytes_count span e)

    pub bytes-filled : {c : List ℕ} → c ≡ put buf (8 * from) (8 * count) (spelled (slice span.at (span.at + span.len) b)) → c ≡ put buf s (width_of f) (default_number b f.default)
    bytes-filled w =
        rw (first_byte, all-bytes) at w ∙ ap (λ (d : DefaultVal). put buf s (width_of f) (default_number b d)) (sym e)
