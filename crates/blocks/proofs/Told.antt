-- What a layout that holds tells of a block's items, so that no other crate goes by offsets. Assumes nothing.
use mathlib.Core.Path.{◌≡◌, sym}
use mathlib.Core.Bool.{true, false, ◌&&◌, ◌||◌}
use mathlib.Core.List.{List, [], ◌∷◌}
use mathlib.Core.Logic.{⊎_elim}
use Prim.Native.Nat.{ℕ, ◌+◌, ◌≤◌, ◌<◌}
use native.Mathlib.Omega.{arith}
use lib.Dec.{leb, ltb, eqb}
use lib.ListN.{length, take, length-take, length-drop}
use borrow.Author.Tests.{leb-true, ltb-true, eqb-true}
use Rattle.answer.specs.Walk.{each}
use Rattle.answer.proofs.Tests.{clash, both_hold, parts, either_way, one-or-other}
use Rattle.octets.specs.Octets.{all, all_in, is_zero}
use Rattle.blocks.specs.Layout.{check_at, kind_of, kind_f, kind_l, kind_c, is_f, is_l, is_c, name_length, name_of, named, unnamed, stated_default_kind, stated_fixed, stated_number, stated_count, stated_bytes_at, default_rule, default_layout, f_layout, stated_slot, stated_form, undefined_form, node_count, node_kind, left_child, right_child, node_layout, tree_layout, l_layout, range_count, c_layout, layout_holds}

-- ---- names

named-short : (b : List ℕ) → named b ≡ true → name_length b ≤ 64
unfolding named
named-short b h = leb-true (name_length b) 64 (search parts)

unnamed-short : (b : List ℕ) → unnamed b ≡ true → name_length b ≤ 64
unfolding all_in all is_zero
unnamed-short [] h = omega arith
unnamed-short (x ∷ []) h = omega arith
unnamed-short (x ∷ y ∷ t) h = omega (arith, eqb-true y 0 (both_hold (eqb y 0) _ h).0)

layout-short : (b : List ℕ) → layout_holds b ≡ true → name_length b ≤ 64
unfolding layout_holds f_layout l_layout c_layout
layout-short b =
    either_way (is_f (kind_of b)) (f_layout b) _ (λ h. named-short b (search parts))
    (either_way (is_l (kind_of b)) (l_layout b) _
    (λ h. either_way (eqb (stated_form b) undefined_form) (unnamed b) (named b) (unnamed-short b) (named-short b) (search parts))
    (either_way (is_c (kind_of b)) (c_layout b) false (λ h. named-short b (search parts)) (λ h. clash (sym h))))

-- a block of any kind has a name of at most 64 bytes
pub name-short : (b : List ℕ) → layout_holds b ≡ true → length (name_of b) ≤ 64
unfolding name_of
name-short b h = omega (arith, length-drop 2 (take (2 + name_length b) b), length-take (2 + name_length b) b, layout-short b h)

-- ---- F: the bytes that a default states end before the check

count-le : (kind fixed number count : ℕ) → default_rule kind fixed number count ≡ true → count ≤ 424
count-le kind fixed number count e =
    let counted : ((eqb kind 2 && leb count 424) || eqb count 0) ≡ true = search parts in
    ⊎_elim (λ p. leb-true count 424 (both_hold (eqb kind 2) (leb count 424) p).1) (λ z. omega (arith, eqb-true count 0 z))
    (one-or-other (eqb kind 2 && leb count 424) (eqb count 0) counted)

pub stated-inside : (b : List ℕ) → kind_of b ≡ kind_f → layout_holds b ≡ true → stated_bytes_at + stated_count b ≤ check_at
unfolding layout_holds f_layout default_layout
stated-inside b k h =
    let holds : f_layout b ≡ true = rw k at h in
    omega (arith, count-le (stated_default_kind b) (stated_fixed b) (stated_number b) (stated_count b) (search parts))

-- ---- L

-- its slot is 0, 1 or 2
pub slot-le : (b : List ℕ) → kind_of b ≡ kind_l → layout_holds b ≡ true → stated_slot b ≤ 2
unfolding layout_holds l_layout
slot-le b k h = let holds : l_layout b ≡ true = rw k at h in leb-true (stated_slot b) 2 (search parts)

-- a tree has 1 to 32 nodes, each inside its layout
pub record TreeTold (b : List ℕ) : Type 0 where
  pub some : 1 ≤ node_count b
  pub most : node_count b ≤ 32
  pub nodes : each (node_layout b) (node_count b) ≡ true

pub tree-told : (b : List ℕ) → tree_layout b ≡ true → TreeTold b
unfolding tree_layout
tree-told b h = record { some = leb-true 1 (node_count b) (search parts); most = leb-true (node_count b) 32 (search parts); nodes = search parts }

-- a node has one of six kinds, and an operator children with smaller indexes
pub record NodeTold (b : List ℕ) (k : ℕ) : Type 0 where
  pub kind : node_kind b k ≤ 5
  pub smaller : 2 ≤ node_kind b k → (left_child b k < k) × (right_child b k < k)

pub node-told : (b : List ℕ) (k : ℕ) → node_layout b k ≡ true → NodeTold b k
node-told b k h =
    let operator = leb 2 (node_kind b k) && ltb (left_child b k) k && ltb (right_child b k) k in
    let leaf = ltb (node_kind b k) 2 && eqb (left_child b k) 0 && eqb (right_child b k) 0 in
    let either : (operator || leaf) ≡ true = search parts in
    record {
      kind = leb-true (node_kind b k) 5 (search parts);
      smaller = λ two. ⊎_elim
          (λ (e : operator ≡ true). (ltb-true (left_child b k) k (search parts), ltb-true (right_child b k) k (search parts)))
          (λ (e : leaf ≡ true). let low : ltb (node_kind b k) 2 ≡ true = search parts in absurd (omega (arith, ltb-true (node_kind b k) 2 low)))
          (one-or-other operator leaf either);
    }

-- ---- C: at most 24 ranges

pub few-ranges : (b : List ℕ) → kind_of b ≡ kind_c → layout_holds b ≡ true → range_count b ≤ 24
unfolding layout_holds c_layout
few-ranges b k h = let holds : c_layout b ≡ true = rw k at h in leb-true (range_count b) 24 (search parts)
