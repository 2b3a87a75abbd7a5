-- A locator passes its test exactly where a field of some good header stands there, and at that field reading and writing is what it is at the locator. That a
-- field which stands there passes is read off what makes its header good. For the other way a header is made around the locator: single bits before it, its
-- field, single bits up to the header's end. Assumes nothing.
use mathlib.Core.Path.{◌≡◌, refl, sym, ap}
use mathlib.Core.Bool.{Bool, true, false}
use mathlib.Core.List.{List, [], ◌∷◌}
use mathlib.Core.Logic.{◌↔◌}
use Prim.Native.Nat.{ℕ, zero, suc, ◌+◌, ◌-◌, ◌*◌, ◌%◌, ◌^◌, ◌<◌, zero-le, suc-le-suc}
use native.Mathlib.Nat.{le_of_suc-le-suc}
use native.Mathlib.Decide.{ℕ_discrete}
use native.Mathlib.Omega.{arith}
use lib.Dec.{lit<}
use lib.ListN.{length}
use lib.Pow.{pow_pos}
use borrow.Author.Tests.{le-leb, lt-ltb, eq-eqb, leb-true, ltb-true}
use Rattle.answer.proofs.Tests.{clash, both_hold}
use Rattle.bits.specs.Bits.{touched}
use Rattle.layout.specs.Layout.{HeaderField, field, bits, start, GoodField, Good}
use Rattle.layout.proofs.Starts.{within}
use Rattle.locator.specs.declared.Held.{Held}
use Rattle.locator.specs.declared.Locator.{Locator}
use Rattle.locator.specs.Locator.{locator_header, first_bit, locator_width, held_is_bytes, has_shape, is_locator, held_default, held_fixed, field_located}
use Rattle.locator.specs.Stands.{held_if, StandsAt, Stands}
use Rattle.locator.proofs.Reached.{Located, located-is, number-shape, bytes-shape, bytes_whole}

-- ---- a field that stands there passes

shaped : (slice : Bool) (f : HeaderField) (s : ℕ) → f.is_bytes ≡ slice → GoodField s f → has_shape (held_if slice f) s f.width ≡ true
shaped true f s kind good = rw (eq-eqb (s % 8) 0 (good.boundary kind), eq-eqb (f.width % 8) 0 (good.whole-bytes kind), le-leb 16 f.width (good.two_bytes kind))
shaped false f s kind good = rw (le-leb 1 f.width good.some, lt-ltb f.default (2 ^ f.width) good.default-fits, le-leb (touched s f.width) 8 (good.number kind))

pub stands-located : {p : Locator} {fs : List HeaderField} {i : ℕ} → Good fs → StandsAt p fs i → Located p
stands-located {p} {fs} {i} good at = record {
  most = omega (arith, good.most, at.header);
  inside = omega (arith, at.header, at.start, at.width, within fs i);
  shape = rw (at.start, at.width, at.held) (shaped (field fs i).is_bytes (field fs i) (start fs i) refl (good.each i at.there));
}

-- ---- a header made around a field: s bits before it and r after it, each a field of its own

single : HeaderField
single = record { width = 1; is_bytes = false; default = 0; fixed = false }

singles : ℕ → List HeaderField
singles zero = []
singles (suc r) = single ∷ singles r

around : ℕ → HeaderField → ℕ → List HeaderField
around zero f r = f ∷ singles r
around (suc s) f r = single ∷ around s f r

-- a single bit is good anywhere
single-good : (s : ℕ) → GoodField s single
unfolding single
single-good s = record {
  some = omega arith;
  default-fits = lit< tt;
  number = λ _. omega arith;
  boundary = λ e. clash (sym e);
  two_bytes = λ e. clash (sym e);
  whole-bytes = λ e. clash (sym e);
  free = λ e. clash (sym e);
}

singles-bits : (r : ℕ) → bits (singles r) ≡ r
unfolding bits singles single
singles-bits zero = refl
singles-bits (suc r) = omega (arith, singles-bits r)

-- every field of it is a single bit
singles-field : (r i : ℕ) → i < length (singles r) → field (singles r) i ≡ single
unfolding singles
singles-field zero i h = absurd (omega arith)
singles-field (suc r) zero h = refl
singles-field (suc r) (suc i) h = singles-field r i (le_of_suc-le-suc h)

module _ (f : HeaderField) (r : ℕ) where
  around-bits : (s : ℕ) → bits (around s f r) ≡ s + f.width + r
  unfolding bits around single
  around-bits zero = omega (arith, singles-bits r)
  around-bits (suc s) = omega (arith, around-bits s)

  around-there : (s : ℕ) → s < length (around s f r)
  unfolding around
  around-there zero = suc-le-suc zero-le
  around-there (suc s) = suc-le-suc (around-there s)

  around-start : (s : ℕ) → start (around s f r) s ≡ s
  unfolding bits around single
  around-start zero = refl
  around-start (suc s) = omega (arith, around-start s)

  around-field : (s : ℕ) → field (around s f r) s ≡ f
  unfolding around
  around-field zero = refl
  around-field (suc s) = around-field s

  -- and every other field is a single bit
  around-other : (s i : ℕ) → i < length (around s f r) → (i ≡ s → ⊥) → field (around s f r) i ≡ single
  unfolding around
  around-other zero zero h other = absurd (other refl)
  around-other zero (suc i) h other = singles-field r i (le_of_suc-le-suc h)
  around-other (suc s) zero h other = refl
  around-other (suc s) (suc i) h other = around-other s i (le_of_suc-le-suc h) (λ e. other (ap suc e))

  around-good : (s : ℕ) → GoodField s f → (i : ℕ) → i < length (around s f r) → GoodField (start (around s f r) i) (field (around s f r) i)
  around-good s good i h = go (ℕ_discrete i s)
    where
      go : Dec (i ≡ s) → GoodField (start (around s f r) i) (field (around s f r) i)
      go (yes here) = rw (here, around-start s, around-field s) good
      go (no other) = rw (around-other s i h other) (single-good (start (around s f r) i))

-- ---- where the test passes, such a header has a field there

-- what is held, as a field holds it
held-again : (h : Held) (w : ℕ) → h ≡ held_if (held_is_bytes h) (record { width = w; is_bytes = held_is_bytes h; default = held_default h; fixed = held_fixed h })
held-again (Held.Number default fixed) w = refl
held-again Held.Bytes w = refl

-- and that such a field is good
pub located-good : (p : Locator) → Located p → GoodField (first_bit p) (field_located p)
located-good p at = of p.held at.shape
  where
    of : (h : Held) → has_shape h (first_bit p) (locator_width p) ≡ true
        → GoodField (first_bit p) (record { width = locator_width p; is_bytes = held_is_bytes h; default = held_default h; fixed = held_fixed h })
    of (Held.Number default fixed) e =
        let two = (number-shape (Held.Number default fixed) (first_bit p) (locator_width p) refl).0 e in
        let number = both_hold _ _ two.0 in
        record {
          some = leb-true 1 (locator_width p) number.0;
          default-fits = ltb-true default (2 ^ locator_width p) number.1;
          number = λ _. two.1;
          boundary = λ k. clash (sym k);
          two_bytes = λ k. clash (sym k);
          whole-bytes = λ k. clash (sym k);
          free = λ k. clash (sym k);
        }
    of Held.Bytes e =
        let whole = bytes_whole Held.Bytes (first_bit p) (locator_width p) ((bytes-shape Held.Bytes (first_bit p) (locator_width p) refl).0 e) in
        record {
          some = omega (arith, whole);
          default-fits = pow_pos (locator_width p);
          number = λ k. clash k;
          boundary = λ _. whole.0;
          two_bytes = λ _. whole.2;
          whole-bytes = λ _. whole.1;
          free = λ _. refl;
        }

located-stands : (p : Locator) → Located p → Stands p
located-stands p at =
    let f = field_located p in
    let s = first_bit p in
    let r = 8 * locator_header p - (first_bit p + locator_width p) in
    let fs = around s f r in
    let all : bits fs ≡ 8 * locator_header p = omega (arith, around-bits f r s, at.inside) in
    record {
      fields = fs;
      good = record { whole = omega (arith, all); most = omega (arith, all, at.most); each = around-good f r s (located-good p at) };
      index = s;
      at = record {
        there = around-there f r s;
        header = sym all;
        start = sym (around-start f r s);
        width = ap (λ (x : HeaderField). x.width) (sym (around-field f r s));
        held = rw (around-field f r s) (held-again p.held (locator_width p));
      };
    }

-- the test is exact
pub locator-is : (p : Locator) → (is_locator p ≡ true) ↔ Stands p
locator-is p = (λ e. located-stands p ((located-is p).0 e), λ at. (located-is p).1 (stands-located at.good at.at))
