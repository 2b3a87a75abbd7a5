-- A block of kind F is inside the layout exactly where it states a field, and that is read back. Assumes nothing.
use mathlib.Core.Path.{◌≡◌, refl, sym, ap, ◌∙◌}
use mathlib.Core.Bool.{Bool, true, false, not, ◌&&◌, ◌||◌}
use mathlib.Core.List.{List, [], ◌∷◌}
use Prim.Native.Nat.{ℕ, zero, suc, ◌+◌, ◌^◌, ◌≤◌, ◌<◌}
use native.Mathlib.Omega.{arith}
use lib.Dec.{leb, eqb, lit<, lit≤}
use lib.ListN.{length}
use lib.Seq.{slice}
use borrow.Author.Tests.{leb-true, le-leb, eqb-true}
use Rattle.answer.proofs.Tests.{both_hold, parts}
use Rattle.octets.specs.Octets.{AreBytes, byte}
use Rattle.octets.proofs.Octets.{be-lt, bytes-slice}
use Rattle.blocks.specs.Layout.{block_size, kind_of, kind_f, stated_repr, stated_arg, stated_gen, stated_default_kind, stated_fixed, stated_number, stated_count, stated_bytes_at, codes_layout, default_rule, default_layout, f_layout}
use Rattle.stated.specs.Items.{a_number, some_bytes, a_bool, DefaultItem, no_default, a_default, FieldItem, WellFormedDefault, WellFormedField}
use Rattle.stated.specs.Stated.{flag, kind_of_default, fixed_of_default, number_of_default, bytes_of_default, default_parts, field_parts}
use Rattle.stated.proofs.ItemIn.{default_from, field_in}
use Rattle.stated.proofs.Reading.{Fit, Reads}
use Rattle.stated.proofs.Parts.{bytes-none}
use Rattle.stated.proofs.Name.{name-fits, counted, name-read, name-holds}

-- ---- flags and counts

flag-read : (n : ℕ) → leb n 1 ≡ true → n ≡ flag (eqb n 1)
flag-read zero h = refl
flag-read (suc zero) h = refl
flag-read (suc (suc n)) h = absurd (omega (arith, leb-true (suc (suc n)) 1 h))

pub flag-back : (t : Bool) → eqb (flag t) 1 ≡ t
flag-back true = refl
flag-back false = refl

flag_small : (t : Bool) → flag t ≤ 1
flag_small true = lit≤ tt
flag_small false = lit≤ tt

-- up to m where a test allows it, else 0
up_to : (t : Bool) (n m : ℕ) → ((t && leb n m) || eqb n 0) ≡ true → n ≤ m
up_to false n m h = omega (arith, eqb-true n 0 h)
up_to true n m h = go (leb n m) refl h
  where
    go : (q : Bool) → leb n m ≡ q → (q || eqb n 0) ≡ true → n ≤ m
    go true e h = leb-true n m e
    go false e h = omega (arith, eqb-true n 0 h)

count-few : (kind fixed number count : ℕ) → default_rule kind fixed number count ≡ true → count ≤ 424
count-few kind fixed number count h =
    let others : Bool = (not (eqb kind 0) || eqb fixed 0) && (eqb kind 1 || (eqb kind 3 && leb number 1) || eqb number 0) in
    up_to (eqb kind 2) count 424 (both_hold others _ h).1

empty : (s : List ℕ) → length s ≡ 0 → s ≡ []
empty [] e = refl
empty (x ∷ s) e = absurd (omega arith)

-- ---- a default, by its codes

record DefaultRead (kind fixed number : ℕ) (s : List ℕ) (d : DefaultItem) : Type 0 where
  good : WellFormedDefault d
  kinds : kind ≡ kind_of_default d
  fixes : fixed ≡ fixed_of_default d
  numbers : number ≡ number_of_default d
  bytes : s ≡ bytes_of_default d

default-read : (kind fixed number : ℕ) (s : List ℕ) → leb kind 3 ≡ true → leb fixed 1 ≡ true → default_rule kind fixed number (length s) ≡ true
    → number < 2 ^ 64 → AreBytes s → DefaultRead kind fixed number s (default_from kind fixed number s)
default-read zero fixed number s h f r l b =
    let p = both_hold _ _ r in
    let q = both_hold (eqb fixed 0) (eqb number 0) p.0 in
    record { good = tt; kinds = refl; fixes = eqb-true fixed 0 q.0; numbers = eqb-true number 0 q.1; bytes = empty s (eqb-true (length s) 0 p.1) }
default-read (suc zero) fixed number s h f r l b =
    record { good = l; kinds = refl; fixes = flag-read fixed f; numbers = refl; bytes = empty s (eqb-true (length s) 0 r) }
default-read (suc (suc zero)) fixed number s h f r l b =
    let p = both_hold (eqb number 0) _ r in
    record { good = (up_to true (length s) 424 p.1, b); kinds = refl; fixes = flag-read fixed f; numbers = eqb-true number 0 p.0; bytes = refl }
default-read (suc (suc (suc zero))) fixed number s h f r l b =
    let p = both_hold (leb number 1 || eqb number 0) _ r in
    record {
      good = tt;
      kinds = refl;
      fixes = flag-read fixed f;
      numbers = flag-read number (le-leb number 1 (up_to true number 1 p.0));
      bytes = empty s (eqb-true (length s) 0 p.1);
    }
default-read (suc (suc (suc (suc k)))) fixed number s h f r l b = absurd (omega (arith, leb-true (suc (suc (suc (suc k)))) 3 h))

default-back : (d : DefaultItem) → default_from (kind_of_default d) (fixed_of_default d) (number_of_default d) (bytes_of_default d) ≡ d
default-back no_default = refl
default-back (a_default (a_number n) fixed) = rw (flag-back fixed)
default-back (a_default (some_bytes s) fixed) = rw (flag-back fixed)
default-back (a_default (a_bool t) fixed) = rw (flag-back t, flag-back fixed)

record DefaultFits (d : DefaultItem) : Type 0 where
  kind : kind_of_default d ≤ 3
  fixed : fixed_of_default d ≤ 1
  number : number_of_default d < 2 ^ 64
  few : length (bytes_of_default d) ≤ 424
  bytes : AreBytes (bytes_of_default d)
  rule : default_rule (kind_of_default d) (fixed_of_default d) (number_of_default d) (length (bytes_of_default d)) ≡ true

default-fits : (d : DefaultItem) → WellFormedDefault d → DefaultFits d
default-fits no_default h = record { kind = lit≤ tt; fixed = lit≤ tt; number = lit< tt; few = lit≤ tt; bytes = bytes-none; rule = refl }
default-fits (a_default (a_number n) fixed) h = record { kind = lit≤ tt; fixed = flag_small fixed; number = h; few = lit≤ tt; bytes = bytes-none; rule = refl }
default-fits (a_default (some_bytes s) fixed) h =
    record { kind = lit≤ tt; fixed = flag_small fixed; number = lit< tt; few = h.0; bytes = h.1; rule = rw (le-leb (length s) 424 h.0) }
default-fits (a_default (a_bool t) fixed) h =
    record {
      kind = lit≤ tt;
      fixed = flag_small fixed;
      number = omega (arith, flag_small t);
      few = lit≤ tt;
      bytes = bytes-none;
      rule = rw (le-leb (flag t) 1 (flag_small t));
    }

pub field_fits : (f : FieldItem) → WellFormedField f → Fit (field_parts f)
field_fits f good =
    let d = default-fits f.default good.default in
    let repr : f.repr ≤ 6 = good.repr in
    let arg : f.arg ≤ 7 = good.arg in
    let gen : f.gen ≤ 2 = good.gen in
    let n = name-fits f.name good.named in
    let default : Fit (default_parts f.default) =
    (omega (arith, d.kind), (omega (arith, d.fixed), (lit< tt, (d.number, (omega (arith, d.few), ((d.few, d.bytes), tt)))))) in
    (lit< tt, (n.0, (n.1, (good.bits, (omega arith, (omega arith, (omega arith, default)))))))

-- ---- a block

module _ (b : List ℕ) (bytes : AreBytes b) (long : length b ≡ block_size) where
  pub f-read : kind_of b ≡ kind_f → f_layout b ≡ true → WellFormedField (field_in b) × Reads b 0 (field_parts (field_in b))
  unfolding f_layout codes_layout default_layout
  f-read kind h =
      let name = name-read b long (search parts) in
      let codes : codes_layout b ≡ true = search parts in
      let rule : default_rule (stated_default_kind b) (stated_fixed b) (stated_number b) (stated_count b) ≡ true = search parts in
      let few = count-few (stated_default_kind b) (stated_fixed b) (stated_number b) (stated_count b) rule in
      let l = slice stated_bytes_at (stated_bytes_at + stated_count b) b in
      let two = counted b long stated_bytes_at 424 (stated_count b) few (lit≤ tt) (search parts) in
      let read : DefaultRead (stated_default_kind b) (stated_fixed b) (stated_number b) l (field_in b).default =
      default-read (stated_default_kind b) (stated_fixed b) (stated_number b) l (search parts) (search parts) (rw two.0 rule) (be-lt b bytes 76 8)
      (bytes-slice stated_bytes_at (stated_bytes_at + stated_count b) b bytes) in
      let zero-byte = eqb-true (byte b 75) 0 (search parts) in
      let default : Reads b 73 (default_parts (field_in b).default) =
      (read.kinds, (read.fixes, (zero-byte, (read.numbers, (sym two.0 ∙ ap length read.bytes, (rw (← read.bytes) two.1, tt)))))) in (
        record {
          named = name.0;
          bits = be-lt b bytes 66 4;
          repr = leb-true (stated_repr b) 6 (search parts);
          arg = leb-true (stated_arg b) 7 (search parts);
          gen = leb-true (stated_gen b) 2 (search parts);
          default = read.good;
        },
        (kind, (name.1, (name.2, (refl, (refl, (refl, (refl, default))))))),
      )

  pub f-holds : (f : FieldItem) → WellFormedField f → Reads b 0 (field_parts f) → (f_layout b ≡ true) × (field_in b ≡ f)
  unfolding f_layout codes_layout default_layout
  f-holds f good (kind, (size, (name-is, (bits, (repr, (arg, (gen, (code, (fixed, (gap, (number, (count, ((held, rest), _))))))))))))) =
      let name = name-holds b long f.name good.named size name-is in
      let d = default-fits f.default good.default in
      let small-repr = le-leb f.repr 6 good.repr in
      let small-arg = le-leb f.arg 7 good.arg in
      let small-gen = le-leb f.gen 2 good.gen in
      let small-kind = le-leb (kind_of_default f.default) 3 d.kind in
      let small-fixed = le-leb (fixed_of_default f.default) 1 d.fixed in (
        rw (name.0, repr, arg, gen, code, fixed, gap, number, count, small-repr, small-arg, small-gen, small-kind, small-fixed, d.rule) rest,
        rw (name.1, bits, repr, arg, gen, code, fixed, number, count, held, default-back f.default),
      )
