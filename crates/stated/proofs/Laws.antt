-- The layout is what blocks state: `layout_is`. The functions of the layout read the item back, `read_back`, and no other item has the same bytes,
-- `stated-one`. With its check word an item is a block that passes: `whole`. Assumes nothing.
use mathlib.Core.Path.{◌≡◌, refl, sym, ap, ◌∙◌}
use mathlib.Core.Bool.{Bool, true, false, cond}
use mathlib.Core.List.{List, ◌++◌}
use mathlib.Core.Logic.{inl, ◌↔◌}
use Prim.Native.Nat.{ℕ, ◌-◌, ◌/◌, ◌%◌, ◌<◌}
use native.Mathlib.Omega.{arith}
use lib.ListN.{length, get_or, take, replicate, length-append}
use lib.Seq.{take_at}
use borrow.Author.Tests.{eqb-true}
use Rattle.answer.proofs.Tests.{clash}
use Rattle.octets.specs.Octets.{AreBytes}
use Rattle.blocks.specs.declared.nodes.Node.{Node}
use Rattle.blocks.specs.Layout.{block_size, check_at, kind_of, is_f, is_l, is_c, f_layout, l_layout, c_layout, layout_holds}
use Rattle.blocks.specs.Nodes.{node_in}
use Rattle.blocks.specs.Ones.{words, ones_sum}
use Rattle.blocks.specs.Check.{check_holds}
use Rattle.blocks.proofs.Rfc1071.{check-word}
use Rattle.stated.specs.Items.{LengthItem, undefined, as_form, as_tree, all_numbers, Item, field_item, length_item, cond_item, WellFormed}
use Rattle.stated.specs.Parts.{number_bytes}
use Rattle.stated.specs.Stated.{name_of_length, nodes_of_length, length_parts, item_parts, stated, block_of}
use Rattle.stated.specs.ReadBack.{ReadBack}
use Rattle.stated.proofs.ItemIn.{item_in}
use Rattle.stated.proofs.Reading.{parts_width, Fit, Reads}
use Rattle.stated.proofs.Parts.{number-length, number-bytes, written-length, written-bytes, bytes-append, bytes-zeros, reads-is}
use Rattle.stated.proofs.Name.{name_back}
use Rattle.stated.proofs.F.{field_fits, f-read, f-holds}
use Rattle.stated.proofs.L.{length-fits, l-read, l-holds, nodes-read}
use Rattle.stated.proofs.C.{cond-fits, c_read, c-holds, ranges-read, codes-read}

-- ---- the bytes of an item, as many as stand before the check

parts-fit : (d : Item) → WellFormed d → Fit (item_parts d)
parts-fit (field_item f) good = field_fits f good
parts-fit (length_item slot l) good = length-fits slot l good
parts-fit (cond_item name ranges) good = cond-fits name ranges good

parts-width : (d : Item) → parts_width (item_parts d) ≡ check_at
parts-width (field_item f) = refl
parts-width (length_item slot l) = refl
parts-width (cond_item name ranges) = refl

pub stated-length : (d : Item) → WellFormed d → length (stated d) ≡ check_at
unfolding stated
stated-length d good = written-length (item_parts d) (parts-fit d good) ∙ parts-width d

pub stated-bytes : (d : Item) → WellFormed d → AreBytes (stated d)
unfolding stated
stated-bytes d good = written-bytes (item_parts d) (parts-fit d good)

-- ---- a block

module _ (b : List ℕ) (bytes : AreBytes b) (long : length b ≡ block_size) where
  -- it states an item exactly where the item's parts are read there
  states-is : (d : Item) → WellFormed d → (take check_at b ≡ stated d) ↔ Reads b 0 (item_parts d)
  unfolding stated
  states-is d good = rw (parts-width d) at (reads-is b bytes (item_parts d) 0 (parts-fit d good) (omega (arith, parts-width d)))

  holds : (d : Item) → WellFormed d → Reads b 0 (item_parts d) → (layout_holds b ≡ true) × (item_in b ≡ d)
  unfolding layout_holds item_in
  holds (field_item f) good r = let two = f-holds b bytes long f good r in (rw r.0 two.0, rw r.0 (ap field_item two.1))
  holds (length_item slot l) good r = let two = l-holds b bytes long slot l good r in (rw r.0 two.0, rw r.0 two.1)
  holds (cond_item name ranges) good r = let two = c-holds b bytes long name ranges good r in (rw r.0 two.0, rw r.0 two.1)

  -- what its kind says: F, L, C, or nothing
  by_kind : (f l c : Bool) → is_f (kind_of b) ≡ f → is_l (kind_of b) ≡ l → is_c (kind_of b) ≡ c → cond f (f_layout b) (cond l (l_layout b) (cond c (c_layout b) false)) ≡ true
      → WellFormed (item_in b) × Reads b 0 (item_parts (item_in b))
  unfolding item_in
  by_kind true l c p q r h = rw p (f-read b bytes long (eqb-true _ _ p) h)
  by_kind false true c p q r h = rw (p, q) (l-read b bytes long (eqb-true _ _ q) h)
  by_kind false false true p q r h = rw (p, q) (c_read b bytes long (eqb-true _ _ r) h)
  by_kind false false false p q r h = clash (sym h)

  pub layout_is : (layout_holds b ≡ true) ↔ ((d : Item) × WellFormed d × (take check_at b ≡ stated d))
  unfolding layout_holds
  layout_is = (
    λ h. let two = by_kind _ _ _ refl refl refl h in (item_in b, two.0, (states-is (item_in b) two.0).1 two.1),
    λ s. (holds s.0 s.1 ((states-is s.0 s.1).0 s.2)).0,
  )

  item_back : (d : Item) → WellFormed d → take check_at b ≡ stated d → item_in b ≡ d
  item_back d good e = (holds d good ((states-is d good).0 e)).1

  -- ---- item by item

  nodes-back : (slot : ℕ) (l : LengthItem) → WellFormed (length_item slot l) → Reads b 0 (length_parts slot l)
      → (k : ℕ) → k < length (nodes_of_length l) → node_in b k ≡ get_or (nodes_of_length l) k (Node.Num 0)
  nodes-back slot undefined good reads k h = absurd (omega arith)
  nodes-back slot (as_form name e) good reads k h = absurd (omega arith)
  nodes-back slot (as_tree name nodes) good reads k h = (nodes-read b bytes long slot name nodes good.1.1 reads k h).1

  reads-back : (d : Item) → WellFormed d → Reads b 0 (item_parts d) → ReadBack b d
  reads-back (field_item f) good (kind, (size, (name, (bits, (repr, (arg, (gen, (code, (fixed, (_, (number, (count, ((held, _), _))))))))))))) =
      record {
        kind = kind;
        name = name_back b long f.name size name;
        bits = bits;
        repr = repr;
        arg = arg;
        gen = gen;
        default-kind = code;
        fixed = fixed;
        number = number;
        count = count;
        bytes = rw count held;
      }
  reads-back (length_item slot l) good reads =
      let (kind, (size, (name, (slot_is, (form, (first, (second, (count, _)))))))) = reads in
      record {
        kind = kind;
        name = name_back b long (name_of_length l) size name;
        slots = slot_is;
        form = form;
        first = first;
        second = second;
        count = count;
        nodes = λ k h. nodes-back slot l good reads k (omega arith);
      }
  reads-back (cond_item name ranges) good reads =
      let (kind, (size, (name-is, (count, _)))) = reads in
      record {
        kind = kind;
        names = name_back b long name size name-is;
        count = count;
        each = λ k h. codes-read b k (get_or ranges k all_numbers) (ranges-read b bytes long name ranges good reads k (omega arith));
      }

  pub read_back : (d : Item) → WellFormed d → take check_at b ≡ stated d → ReadBack b d
  read_back d good e = reads-back d good ((states-is d good).0 e)

-- no two items are stated by the same bytes
pub stated-one : (d e : Item) → WellFormed d → WellFormed e → stated d ≡ stated e → d ≡ e
stated-one d e good well same = sym (back d good refl) ∙ back e well same
  where
    b : List ℕ
    b = stated d ++ replicate 2 0

    long : length b ≡ block_size
    long = length-append (stated d) _ ∙ omega (arith, stated-length d good)

    back : (c : Item) → WellFormed c → stated d ≡ stated c → item_in b ≡ c
    back c ok q = item_back b (bytes-append (stated d) _ (stated-bytes d good) (bytes-zeros 2)) long c ok (take_at (stated d) _ check_at (stated-length d good) ∙ q)

-- ---- the whole block: the bytes that state an item, and their check word

pub record Whole (d : Item) (b : List ℕ) : Type 0 where
  pub long : length b ≡ block_size
  pub bytes : AreBytes b
  pub says : take check_at b ≡ stated d
  pub checks : check_holds b ≡ true
  pub laid_out : layout_holds b ≡ true

pub whole : (d : Item) → WellFormed d → Whole d (block_of d)
unfolding block_of number_bytes
whole d good =
    let p = stated d in
    let size : length p ≡ 510 = stated-length d good in
    let w = 65535 - ones_sum (words p) in
    let high : w / 256 % 256 ≡ w / 256 = omega arith in
    let long : length (p ++ number_bytes 2 w) ≡ block_size = length-append p _ ∙ omega (arith, size, number-length 2 w) in
    let bytes = bytes-append p (number_bytes 2 w) (stated-bytes d good) (number-bytes 2 w) in
    let says = take_at p (number_bytes 2 w) check_at size in
    record {
      long = long;
      bytes = bytes;
      says = says;
      checks = rw high ((check-word p (stated-bytes d good) size w (omega arith)).1 (inl refl));
      laid_out = (layout_is (p ++ number_bytes 2 w) bytes long).1 (d, good, says);
    }
