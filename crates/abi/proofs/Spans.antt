-- Where the record of a field says that its name and the bytes of its default stand in the sheet, there they stand: `name-told`, `default-told`. A part of a block is that part of
-- the sheet, as many bytes further on as the block stands. Assumes nothing.
use Rattle.std.specs.Prelude.{Some, None}
use mathlib.Core.Path.{◌≡◌, refl, sym, ap, ◌∙◌}
use mathlib.Core.Bool.{Bool, true, false, cond}
use mathlib.Core.List.{List}
use Prim.Native.Nat.{ℕ, ◌+◌, ◌*◌, ◌≤◌, ◌<◌, min}
use native.Mathlib.Decide.{dec_le}
use native.Mathlib.Omega.{arith}
use lib.Dec.{eqb}
use lib.ListN.{length, get_or, take, drop, length-take, length-drop}
use lib.Seq.{slice, length-take-le, take_all, take-add, take-take, drop-drop, drop_at, slice_empty}
use borrow.Author.Tests.{lt-ltb, eqb-true, eqb-false}
use Rattle.answer.proofs.Tests.{clash}
use Rattle.blocks.specs.Layout.{block_size, name_begins, name_length, name_of, stated_bytes_at, stated_count, stated_default_kind, stated_fixed, stated_number}
use Rattle.blocks.proofs.Told.{stated-inside}
use Rattle.sheet.specs.Blocks.{block_count, block_at, field_count}
use Rattle.sheet.specs.SheetIs.{InOrder}
use Rattle.sheet.proofs.Blocks.{block-long}
use Rattle.sheet.proofs.SheetIs.{in_order, laid_out}
use Rattle.types.specs.declared.BuiltinTypes.{BuiltinTypes}
use Rattle.types.specs.Types.{is_slice}
use Rattle.field.specs.declared.Span.{Span}
use Rattle.field.specs.declared.DefaultVal.{DefaultVal}
use Rattle.field.specs.Fields.{no_bytes, default_of}
use Rattle.field_blocks.specs.OnBlock.{default_in}
use Rattle.field_blocks.specs.Step.{field_at}
use Rattle.header.specs.Names.{name_at}
use Rattle.definition.specs.Definition.{Accepted}
use Rattle.definition.proofs.Steps.{five-steps}
use Rattle.access.specs.Access.{locator_of}
use Rattle.abi.specs.Numbers.{default_count, default_begins, record_numbers, field_numbers}

-- ---- parts of parts

take-drop : (m e : ℕ) (l : List ℕ) → m ≤ length l → take e (drop m l) ≡ drop m (take (m + e) l)
take-drop m e l h = sym (ap (drop m) (take-add m e l) ∙ drop_at (take m l) (take e (drop m l)) m (length-take-le m l h))

module _ (s : List ℕ) (i : ℕ) (there : i < block_count s) where
  long : block_size * i + block_size ≤ length s
  long = omega arith

  in_block : (a e : ℕ) → e ≤ block_size → slice (block_size * i + a) (block_size * i + e) s ≡ slice a e (block_at s i)
  unfolding block_at
  in_block a e h =
      let m = block_size * i in
      rw (lt-ltb i (block_count s) there)
      (sym (ap (drop a) (take-drop m e (take (m + block_size) s) (omega (arith, length-take (m + block_size) s, long)) ∙ ap (drop m) (take-take (m + e) (m + block_size) s (omega arith)))
      ∙ drop-drop a m (take (m + e) s)))

-- a part is as long as it is
its-length : (f t : ℕ) (l : List ℕ) → f ≤ t → f ≤ length l → slice f (f + length (slice f t l)) l ≡ slice f t l
its-length f t l ft fl = ap (λ (n : ℕ). drop f (take n l)) whole ∙ ap (drop f) (by_end (dec_le t (length l)))
  where
    whole : f + length (slice f t l) ≡ min t (length l)
    whole = omega (arith, length-drop f (take t l), length-take t l)

    by_end : Dec (t ≤ length l) → take (min t (length l)) l ≡ take t l
    by_end (yes h) = let all : min t (length l) ≡ t = omega arith in ap (λ (n : ℕ). take n l) all
    by_end (no h) = take_all (min t (length l)) l (omega arith) ∙ sym (take_all t l (omega arith))

-- ---- the name of field i

name-there : (s : List ℕ) (i : ℕ) → i < block_count s → let at = block_size * i + name_begins in slice at (at + length (name_at s i)) s ≡ name_at s i
unfolding name_of
name-there s i h =
    let b = block_at s i in
    let n = length (name_at s i) in
    let size = block-long s i h in
    let next : block_size * i + name_begins + n ≡ block_size * i + (name_begins + n) = omega arith in
    let within : name_begins + n ≤ block_size = omega (arith, size, length-drop name_begins (take (name_begins + name_length b) b), length-take (name_begins + name_length b) b) in
    ap (λ (e : ℕ). slice (block_size * i + name_begins) e s) next
    ∙ in_block s i h name_begins (name_begins + n) within
    ∙ its-length name_begins (name_begins + name_length b) b (omega arith) (omega (arith, size))

-- the eleventh and the twelfth number of its record
pub name-told : (s : List ℕ) (i : ℕ) → i < block_count s → let f = field_numbers s (locator_of s i) in slice (get_or f 10 0) (get_or f 10 0 + get_or f 11 0) s ≡ name_at s i
unfolding record_numbers
name-told s i h = name-there s i h

-- ---- the bytes of its default

-- bytes that a block states begin at one place in it
begins : (b : List ℕ) (repr : BuiltinTypes) {span : Span} → default_of repr (default_in b) ≡ DefaultVal.Bytes span
    → (span.len ≡ 0 → ⊥) → (span.at ≡ stated_bytes_at) × (span.len ≡ stated_count b)
begins b repr {span} = by_kind (eqb (stated_default_kind b) 0) (eqb (stated_default_kind b) 1) (eqb (stated_default_kind b) 2)
  where
    Begin : Type 0
    Begin = (span.at ≡ stated_bytes_at) × (span.len ≡ stated_count b)

    stated-span : Span
    stated-span = record { at = stated_bytes_at; len = stated_count b }

    inferred : (held : Bool) → cond held (DefaultVal.Bytes no_bytes) (DefaultVal.Num 0) ≡ DefaultVal.Bytes span → (span.len ≡ 0 → ⊥) → Begin
    inferred true e some = let same : no_bytes ≡ span = cc in absurd (some (sym (ap (λ (x : Span). x.len) same)))
    inferred false e some = let never : ◌≡◌ {A = Bool} true false = cc in clash never

    by_kind : (absent number bytes : Bool)
        → default_of repr (cond absent None (Some ((cond number (DefaultVal.Num (stated_number b)) (cond bytes (DefaultVal.Bytes stated-span) (DefaultVal.Bool (eqb (stated_number b) 1)))), (eqb (stated_fixed b) 1))))
        ≡ DefaultVal.Bytes span → (span.len ≡ 0 → ⊥) → Begin
    by_kind true number bytes e some = inferred (is_slice repr) e some
    by_kind false true bytes e some = let never : ◌≡◌ {A = Bool} true false = cc in clash never
    by_kind false false true e some = let same : stated-span ≡ span = cc in (sym (ap (λ (x : Span). x.at) same), sym (ap (λ (x : Span). x.len) same))
    by_kind false false false e some = let never : ◌≡◌ {A = Bool} true false = cc in clash never

module _ (s : List ℕ) (ok : Accepted s) (i : ℕ) (h : i < field_count s) {span : Span} (is : (field_at s i).default ≡ DefaultVal.Bytes span) where
  blocks : InOrder s
  blocks = in_order s (five-steps s ok).sheet

  there : i < block_count s
  there = omega (arith, blocks.no-others)

  stated-there : (n : ℕ) → (span.at ≡ stated_bytes_at) × (span.len ≡ stated_count (block_at s i)) → n ≡ span.len
      → slice (block_size * i + stated_bytes_at) (block_size * i + stated_bytes_at + n) s ≡ slice span.at (span.at + n) (block_at s i)
  stated-there n stated same =
      let inside = stated-inside (block_at s i) (blocks.f-first i h) (laid_out s (five-steps s ok).sheet i there) in
      let next : block_size * i + stated_bytes_at + n ≡ block_size * i + (stated_bytes_at + n) = omega arith in
      ap (λ (e : ℕ). slice (block_size * i + stated_bytes_at) e s) next
      ∙ in_block s i there stated_bytes_at (stated_bytes_at + n) (omega (arith, inside, stated.1, same))
      ∙ ap (λ (a : ℕ). slice a (a + n) (block_at s i)) (sym stated.0)

  default-there : let at = default_begins i span.len in slice at (at + span.len) s ≡ slice span.at (span.at + span.len) (block_at s i)
  default-there = by_count (eqb span.len 0) refl
    where
      by_count : (none-stated : Bool) → eqb span.len 0 ≡ none-stated
          → let at = cond none-stated 0 (block_size * i + stated_bytes_at) in slice at (at + span.len) s ≡ slice span.at (span.at + span.len) (block_at s i)
      by_count true e =
          let empty = eqb-true span.len 0 e in
          let nothing : span.at + span.len ≡ span.at = omega (arith, empty) in
          let none-there : 0 + span.len ≡ 0 = omega (arith, empty) in
          ap (λ (n : ℕ). slice 0 n s) none-there ∙ slice_empty 0 s ∙ sym (ap (λ (n : ℕ). slice span.at n (block_at s i)) nothing ∙ slice_empty span.at (block_at s i))
      by_count false e = stated-there span.len (begins (block_at s i) _ is (eqb-false span.len 0 e)) refl

  -- the last two numbers of its record
  pub default-told : let f = field_numbers s (locator_of s i) in slice (get_or f 12 0) (get_or f 12 0 + get_or f 13 0) s ≡ slice span.at (span.at + span.len) (block_at s i)
  unfolding record_numbers
  default-told = rw (ap default_count is) default-there
