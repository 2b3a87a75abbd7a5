-- A block of kind L is inside the layout exactly where it states a slot and a length, and these are read back. Assumes nothing.
use mathlib.Core.Path.{◌≡◌, refl, sym, subst}
use mathlib.Core.Bool.{Bool, true, false, cond, ◌&&◌, ◌||◌, or-false}
use mathlib.Core.List.{List}
use mathlib.Core.Logic.Iff
use mathlib.Core.Logic.{◌↔◌}
use Prim.Native.Nat.{ℕ, zero, suc, ◌+◌, ◌*◌, ◌^◌, ◌≤◌, ◌<◌}
use native.Mathlib.Omega.{arith}
use lib.Dec.{leb, ltb, eqb, lit<, lit≤}
use lib.ListN.{length, get_or}
use lib.Seq.{slice}
use borrow.Author.Tests.{leb-true, le-leb, ltb-true, lt-ltb, eqb-true, eqb-false}
use Rattle.answer.specs.Walk.{each}
use Rattle.answer.proofs.Tests.{parts, and_is, eqb_is}
use Rattle.answer.proofs.Walk.{each_all, each_at}
use Rattle.octets.specs.Octets.{AreBytes, byte, all_in, is_zero}
use Rattle.octets.proofs.Octets.{be-lt, all_more}
use Rattle.blocks.specs.declared.nodes.Node.{Node}
use Rattle.blocks.specs.Layout.{block_size, check_at, kind_of, kind_l, name_of, named, unnamed, stated_slot, stated_form, first_number, second_number, undefined_form, tree_form, has_first, has_second}
use Rattle.blocks.specs.Layout.{node_count, node_at, node_kind, left_child, right_child, node_number, node_rule, node_layout, tree_layout, l_layout}
use Rattle.blocks.specs.Nodes.{node_in}
use Rattle.expr.specs.declared.UsableAlgExpr.{UsableAlgExpr}
use Rattle.expr.specs.Forms.{form_number, first_in, second_in}
use Rattle.stated.specs.Items.{LengthItem, undefined, as_form, as_tree, WellFormedForm, WellFormedNode, WellFormedNodes, length_item, WellFormed}
use Rattle.stated.specs.Parts.{rows}
use Rattle.stated.specs.Stated.{node_row, node_parts, length_parts}
use Rattle.stated.proofs.ItemIn.{form_from, length_in}
use Rattle.stated.proofs.Reading.{parts_width, Fit, Reads}
use Rattle.stated.proofs.Parts.{all_join, nothing_read, nothing-fits}
use Rattle.stated.proofs.Rows.{rows-length, rows-bytes, rows_are}
use Rattle.stated.proofs.Tables.{tabled, tabled-length, tabled-each, tabled-of}
use Rattle.stated.proofs.Name.{name-fits, name-read, name-holds}

-- ---- a form, by its codes

record FormRead (form first second : ℕ) (e : UsableAlgExpr) : Type 0 where
  good : WellFormedForm e
  code : form ≡ form_number e
  firsts : first ≡ first_in e
  seconds : second ≡ second_in e

form-read : (form first second : ℕ) → 1 ≤ form → form ≤ 5 → (has_first form || eqb first 0) ≡ true → (has_second form || eqb second 0) ≡ true
    → first < 2 ^ 64 → second < 2 ^ 64 → FormRead form first second (form_from form first second)
form-read zero first second h k p q l m = absurd (omega arith)
form-read (suc zero) first second h k p q l m =
    record { good = record { first = lit< tt; second = lit< tt }; code = refl; firsts = eqb-true first 0 p; seconds = eqb-true second 0 q }
form-read (suc (suc zero)) first second h k p q l m =
    record { good = record { first = l; second = lit< tt }; code = refl; firsts = refl; seconds = eqb-true second 0 q }
form-read (suc (suc (suc zero))) first second h k p q l m =
    record { good = record { first = l; second = lit< tt }; code = refl; firsts = refl; seconds = eqb-true second 0 q }
form-read (suc (suc (suc (suc zero)))) first second h k p q l m = record { good = record { first = l; second = m }; code = refl; firsts = refl; seconds = refl }
form-read (suc (suc (suc (suc (suc zero))))) first second h k p q l m = record { good = record { first = l; second = m }; code = refl; firsts = refl; seconds = refl }
form-read (suc (suc (suc (suc (suc (suc n)))))) first second h k p q l m = absurd (omega arith)

-- of a form the tests of its number, and that it is read back
record FormHolds (e : UsableAlgExpr) : Type 0 where
  known : leb (form_number e) 6 ≡ true
  not_none : eqb (form_number e) undefined_form ≡ false
  not-tree : eqb (form_number e) tree_form ≡ false
  firsts : (has_first (form_number e) || eqb (first_in e) 0) ≡ true
  seconds : (has_second (form_number e) || eqb (second_in e) 0) ≡ true
  back : form_from (form_number e) (first_in e) (second_in e) ≡ e

form-holds : (e : UsableAlgExpr) → FormHolds e
form-holds UsableAlgExpr.IdentOnly = record { known = refl; not_none = refl; not-tree = refl; firsts = refl; seconds = refl; back = refl }
form-holds (UsableAlgExpr.SimpleAdd a) = record { known = refl; not_none = refl; not-tree = refl; firsts = refl; seconds = refl; back = refl }
form-holds (UsableAlgExpr.SimpleMult m) = record { known = refl; not_none = refl; not-tree = refl; firsts = refl; seconds = refl; back = refl }
form-holds (UsableAlgExpr.AddMult a m) = record { known = refl; not_none = refl; not-tree = refl; firsts = refl; seconds = refl; back = refl }
form-holds (UsableAlgExpr.MultAdd m a) = record { known = refl; not_none = refl; not-tree = refl; firsts = refl; seconds = refl; back = refl }

-- ---- a node in a block

module _ (b : List ℕ) (k : ℕ) where
  two : node_at k + 1 + 1 ≡ node_at k + 2
  two = omega arith

  three : node_at k + 1 + 1 + 1 ≡ node_at k + 3
  three = omega arith

  four : node_at k + 1 + 1 + 1 + 1 ≡ node_at k + 4
  four = omega arith

  -- the byte that is not named
  abbrev gap : ℕ
  gap = byte b (node_at k + 3)

  row_is : (kind left right n : ℕ) → Reads b (node_at k) (node_row kind left right n)
      ↔ ((node_kind b k ≡ kind) × (left_child b k ≡ left) × (right_child b k ≡ right) × (gap ≡ 0) × (node_number b k ≡ n))
  row_is kind left right n = (
    λ (t, (l, (r, (z, (e, _))))). (t, l, rw two at r, rw three at z, rw four at e),
    λ (t, l, r, z, e). (t, (l, (rw two r, (rw three z, (rw four e, tt))))),
  )

  module _ (bytes : AreBytes b) where
    -- the node that is read is well formed, and its row stands here
    abbrev Stands : Node → Type 0
    Stands d = WellFormedNode k d × Reads b (node_at k) (node_parts d)

    -- of an operator, whichever
    operator : (kind : ℕ) → node_kind b k ≡ kind
        → (((ltb (left_child b k) k && ltb (right_child b k) k) || false) && eqb gap 0 && eqb (node_number b k) 0) ≡ true
        → ((left_child b k < k) × (right_child b k < k)) × Reads b (node_at k) (node_row kind (left_child b k) (right_child b k) 0)
    operator kind e h =
        let tests : (ltb (left_child b k) k && ltb (right_child b k) k && eqb gap 0 && eqb (node_number b k) 0) ≡ true = rw or-false at h in (
          (ltb-true (left_child b k) k (search parts), ltb-true (right_child b k) k (search parts)),
          (row_is kind _ _ 0).1 (e, refl, refl, eqb-true gap 0 (search parts), eqb-true (node_number b k) 0 (search parts)),
        )

    -- and of a leaf
    leaf : (kind n : ℕ) → node_kind b k ≡ kind → node_number b k ≡ n → (eqb (left_child b k) 0 && eqb (right_child b k) 0 && eqb gap 0) ≡ true
        → Reads b (node_at k) (node_row kind 0 0 n)
    leaf kind n e m h =
        (row_is kind 0 0 n).1 (e, eqb-true (left_child b k) 0 (search parts), eqb-true (right_child b k) 0 (search parts), eqb-true gap 0 (search parts), m)

    node-read : (kind : ℕ) → node_kind b k ≡ kind → node_rule k kind (left_child b k) (right_child b k) gap (node_number b k) ≡ true → Stands (node_in b k)
    unfolding node_in
    node-read zero e h =
        let is : node_in b k ≡ Node.Num (node_number b k) = rw e in
        subst Stands (sym is) (be-lt b bytes (node_at k + 4) 8, leaf 0 _ e refl (search parts))
    node-read (suc zero) e h =
        let is : node_in b k ≡ Node.Ident = rw e in
        subst Stands (sym is) (tt, leaf 1 0 e (eqb-true (node_number b k) 0 (search parts)) (search parts))
    node-read (suc (suc zero)) e h =
        let is : node_in b k ≡ Node.Add (left_child b k) (right_child b k) = rw e in subst Stands (sym is) (operator 2 e h)
    node-read (suc (suc (suc zero))) e h =
        let is : node_in b k ≡ Node.Sub (left_child b k) (right_child b k) = rw e in subst Stands (sym is) (operator 3 e h)
    node-read (suc (suc (suc (suc zero)))) e h =
        let is : node_in b k ≡ Node.Mul (left_child b k) (right_child b k) = rw e in subst Stands (sym is) (operator 4 e h)
    node-read (suc (suc (suc (suc (suc zero))))) e h =
        let is : node_in b k ≡ Node.Div (left_child b k) (right_child b k) = rw e in subst Stands (sym is) (operator 5 e h)
    node-read (suc (suc (suc (suc (suc (suc n)))))) e h =
        let kind : ℕ = suc (suc (suc (suc (suc (suc n))))) in
        let low : leb kind 5 ≡ true = search parts in
        absurd (omega (arith, leb-true kind 5 low))

    -- a row that stands here passes, and is read as its node
    abbrev Holds : Node → Type 0
    Holds d = (node_layout b k ≡ true) × (node_in b k ≡ d)

    node-holds : (d : Node) → WellFormedNode k d → Reads b (node_at k) (node_parts d) → Holds d
    unfolding node_in
    node-holds (Node.Num n) good reads = let (e, l, r, z, m) = (row_is 0 0 0 n).0 reads in (rw (e, l, r, z), rw (e, m))
    node-holds Node.Ident good reads = let (e, l, r, z, m) = (row_is 1 0 0 0).0 reads in (rw (e, l, r, z, m), rw e)
    node-holds (Node.Add left right) (p, q) reads =
        let (e, l, r, z, m) = (row_is 2 left right 0).0 reads in (rw (e, l, r, z, m, lt-ltb left k p, lt-ltb right k q), rw (e, l, r))
    node-holds (Node.Sub left right) (p, q) reads =
        let (e, l, r, z, m) = (row_is 3 left right 0).0 reads in (rw (e, l, r, z, m, lt-ltb left k p, lt-ltb right k q), rw (e, l, r))
    node-holds (Node.Mul left right) (p, q) reads =
        let (e, l, r, z, m) = (row_is 4 left right 0).0 reads in (rw (e, l, r, z, m, lt-ltb left k p, lt-ltb right k q), rw (e, l, r))
    node-holds (Node.Div left right) (p, q) reads =
        let (e, l, r, z, m) = (row_is 5 left right 0).0 reads in (rw (e, l, r, z, m, lt-ltb left k p, lt-ltb right k q), rw (e, l, r))

node-width : (d : Node) → parts_width (node_parts d) ≡ 12
node-width (Node.Num n) = refl
node-width Node.Ident = refl
node-width (Node.Add left right) = refl
node-width (Node.Sub left right) = refl
node-width (Node.Mul left right) = refl
node-width (Node.Div left right) = refl

node-fits : (k : ℕ) (d : Node) → k < 256 → WellFormedNode k d → Fit (node_parts d)
node-fits k (Node.Num n) h good = (lit< tt, (lit< tt, (lit< tt, (lit< tt, (good, tt)))))
node-fits k Node.Ident h good = (lit< tt, (lit< tt, (lit< tt, (lit< tt, (lit< tt, tt)))))
node-fits k (Node.Add left right) h good = (lit< tt, (omega arith, (omega arith, (lit< tt, (lit< tt, tt)))))
node-fits k (Node.Sub left right) h good = (lit< tt, (omega arith, (omega arith, (lit< tt, (lit< tt, tt)))))
node-fits k (Node.Mul left right) h good = (lit< tt, (omega arith, (omega arith, (lit< tt, (lit< tt, tt)))))
node-fits k (Node.Div left right) h good = (lit< tt, (omega arith, (omega arith, (lit< tt, (lit< tt, tt)))))

nodes-fit : (ns : List Node) → WellFormedNodes ns → (k : ℕ) → k < length ns → Fit (node_parts (get_or ns k (Node.Num 0)))
nodes-fit ns good k h = node-fits k (get_or ns k (Node.Num 0)) (omega (arith, good.few)) (good.each k h)

nodes-length : (ns : List Node) → WellFormedNodes ns → length (rows node_parts ns) ≡ 12 * length ns
nodes-length ns good = rows-length node_parts (Node.Num 0) 12 node-width ns (nodes-fit ns good)

form_small : (e : UsableAlgExpr) → form_number e < 256
form_small e = omega (arith, leb-true (form_number e) 6 (form-holds e).known)

pub length-fits : (slot : ℕ) (l : LengthItem) → WellFormed (length_item slot l) → Fit (length_parts slot l)
unfolding rows
length-fits slot undefined (h, _) =
    (lit< tt, (lit< tt, (nothing-fits 64, (omega arith, (lit< tt, (lit< tt, (lit< tt, (lit< tt, (nothing-fits 3, (nothing-fits 422, tt))))))))))
length-fits slot (as_form name e) (h, (good-name, good)) =
    let n = name-fits name good-name in
    (lit< tt, (n.0, (n.1, (omega arith, (form_small e, (good.first, (good.second, (lit< tt, (nothing-fits 3, (nothing-fits 422, tt))))))))))
length-fits slot (as_tree name nodes) (h, (good-name, good)) =
    let n = name-fits name good-name in
    let few : length nodes ≤ 32 = good.few in
    let size = nodes-length nodes good in
    let held = rows-bytes node_parts (Node.Num 0) 12 node-width nodes (nodes-fit nodes good) in
    (lit< tt, (n.0, (n.1, (omega arith, (lit< tt, (lit< tt, (lit< tt, (omega arith, (nothing-fits 3, ((omega arith, held), tt))))))))))

-- ---- a block

module _ (b : List ℕ) (bytes : AreBytes b) (long : length b ≡ block_size) where
  -- no name, and no nodes: nothing from there on
  unnamed-is : (unnamed b ≡ true) ↔ ((byte b 1 ≡ 0) × (all_in is_zero b 2 66 ≡ true))
  unfolding is_zero
  unnamed-is = rw (all_more is_zero b 1 66 (lit< tt) (omega arith)) (simp (and_is, eqb_is) Iff.rfl)

  no-nodes-is : (all_in is_zero b 84 check_at ≡ true) ↔ ((byte b 84 ≡ 0) × ((all_in is_zero b 85 88 ≡ true) × (all_in is_zero b 88 check_at ≡ true)))
  unfolding is_zero
  no-nodes-is =
      rw (all_more is_zero b 84 check_at (lit< tt) (omega arith), all_join b is_zero 85 88 check_at (lit≤ tt) (lit≤ tt) (omega arith))
      (simp (and_is, eqb_is) Iff.rfl)

  -- nodes that stand one after the other, node by node
  nodes-are : (ns : List Node) → WellFormedNodes ns
      → (slice 88 (88 + length (rows node_parts ns)) b ≡ rows node_parts ns) ↔ ((k : ℕ) → k < length ns → Reads b (node_at k) (node_parts (get_or ns k (Node.Num 0))))
  nodes-are ns good = rows_are node_parts (Node.Num 0) 12 node-width b bytes ns 88 (nodes-fit ns good) (omega (arith, good.few))

  -- a length is what the block states
  abbrev States : LengthItem → Type 0
  States l = WellFormed (length_item (stated_slot b) l) × Reads b 0 (length_parts (stated_slot b) l)

  tree-read : kind_of b ≡ kind_l → named b ≡ true → stated_slot b ≤ 2 → stated_form b ≡ tree_form → first_number b ≡ 0 → second_number b ≡ 0 → tree_layout b ≡ true
      → States (as_tree (name_of b) (tabled (node_in b) (node_count b)))
  unfolding tree_layout
  tree-read kind has-name slot form first second h =
      let name = name-read b long has-name in
      let some : 1 ≤ node_count b = leb-true 1 (node_count b) (search parts) in
      let few : node_count b ≤ 32 = leb-true (node_count b) 32 (search parts) in
      let all-nodes : each (node_layout b) (node_count b) ≡ true = search parts in
      let zeros : all_in is_zero b 85 88 ≡ true = search parts in
      let rest : all_in is_zero b (node_at (node_count b)) check_at ≡ true = search parts in
      let nodes = tabled (node_in b) (node_count b) in
      let size : length nodes ≡ node_count b = tabled-length (node_in b) (node_count b) in
      let read = tabled-each (λ k d. WellFormedNode k d × Reads b (node_at k) (node_parts d)) (node_in b) (node_count b) (Node.Num 0)
      (λ k l. node-read b k bytes (node_kind b k) refl (each_at (node_layout b) (node_count b) all-nodes k l)) in
      let good : WellFormedNodes nodes = record { some = omega arith; few = omega arith; each = λ k l. (read k l).0 } in
      let held = (nodes-are nodes good).1 (λ k l. (read k l).1) in
      let no_more : all_in is_zero b (88 + length (rows node_parts nodes)) check_at ≡ true = rw (nodes-length nodes good, size) rest in
      ((slot, (name.0, good)), (kind, (name.1, (name.2, (refl, (form, (first, (second, (sym size, (nothing_read b 85 3 zeros, ((held, no_more), tt)))))))))))

  by_form : (none tree : Bool) → eqb (stated_form b) undefined_form ≡ none → eqb (stated_form b) tree_form ≡ tree → kind_of b ≡ kind_l
      → cond none (unnamed b) (named b) ≡ true → stated_slot b ≤ 2 → stated_form b ≤ 6
      → (has_first (stated_form b) || eqb (first_number b) 0) ≡ true → (has_second (stated_form b) || eqb (second_number b) 0) ≡ true
      → cond tree (tree_layout b) (all_in is_zero b 84 check_at) ≡ true → States (length_in b)
  unfolding rows
  by_form true true e d kind name slot known first second rest = absurd (omega (arith, eqb-true (stated_form b) 0 e, eqb-true (stated_form b) 6 d))
  by_form true false e d kind name slot known first second rest =
      let z = eqb-true (stated_form b) undefined_form e in
      let is : length_in b ≡ undefined = rw e in
      let n = unnamed-is.0 name in
      let first-none = eqb-true (first_number b) 0 (rw z at first) in
      let second_none = eqb-true (second_number b) 0 (rw z at second) in
      let (count, (gap, zeros)) = no-nodes-is.0 rest in
      let no_name = nothing_read b 2 64 n.1 in
      let no-nodes = nothing_read b 88 422 zeros in
      subst States (sym is) ((slot, tt), (kind, (n.0, (no_name, (refl, (z, (first-none, (second_none, (count, (nothing_read b 85 3 gap, (no-nodes, tt)))))))))))
  by_form false true e d kind name slot known first second rest =
      let z = eqb-true (stated_form b) tree_form d in
      let is : length_in b ≡ as_tree (name_of b) (tabled (node_in b) (node_count b)) = rw (e, d) in
      subst States (sym is) (tree-read kind name slot z (eqb-true _ _ (rw z at first)) (eqb-true _ _ (rw z at second)) rest)
  by_form false false e d kind name slot known first second rest =
      let n = name-read b long name in
      let not0 = eqb-false (stated_form b) undefined_form e in
      let not6 = eqb-false (stated_form b) tree_form d in
      let f = form-read (stated_form b) (first_number b) (second_number b) (omega arith) (omega arith) first second (be-lt b bytes 68 8) (be-lt b bytes 76 8) in
      let is : length_in b ≡ as_form (name_of b) (form_from (stated_form b) (first_number b) (second_number b)) = rw (e, d) in
      let (count, (gap, zeros)) = no-nodes-is.0 rest in
      let no-nodes = nothing_read b 88 422 zeros in
      subst States (sym is)
      ((slot, (n.0, f.good)), (kind, (n.1, (n.2, (refl, (f.code, (f.firsts, (f.seconds, (count, (nothing_read b 85 3 gap, (no-nodes, tt)))))))))))

  pub l-read : kind_of b ≡ kind_l → l_layout b ≡ true → States (length_in b)
  unfolding l_layout
  l-read kind h =
      by_form (eqb (stated_form b) undefined_form) (eqb (stated_form b) tree_form) refl refl kind (search parts)
      (leb-true (stated_slot b) 2 (search parts)) (leb-true (stated_form b) 6 (search parts)) (search parts) (search parts) (search parts)

  -- each node that is stated
  pub nodes-read : (slot : ℕ) (name : List ℕ) (nodes : List Node) → WellFormedNodes nodes → Reads b 0 (length_parts slot (as_tree name nodes))
      → (k : ℕ) → k < length nodes → (node_layout b k ≡ true) × (node_in b k ≡ get_or nodes k (Node.Num 0))
  nodes-read slot name nodes good (_, (_, (_, (_, (_, (_, (_, (_, (_, ((held, _), _)))))))))) k l =
      node-holds b k bytes (get_or nodes k (Node.Num 0)) (good.each k l) ((nodes-are nodes good).0 held k l)

  pub l-holds : (slot : ℕ) (l : LengthItem) → WellFormed (length_item slot l) → Reads b 0 (length_parts slot l)
      → (l_layout b ≡ true) × (length_item (stated_slot b) (length_in b) ≡ length_item slot l)
  unfolding l_layout tree_layout rows
  l-holds slot undefined (h, _) (kind, (size, ((_, no_name), (slot_is, (form, (first, (second, (count, ((_, gap), ((_, rest), _)))))))))) =
      (rw (form, slot_is, first, second, unnamed-is.1 (size, no_name), le-leb slot 2 h) (no-nodes-is.1 (count, (gap, rest))), rw (form, slot_is))
  l-holds slot (as_form name e) (h, (good-name, good)) (kind, (size, (name-is, (slot_is, (form, (first, (second, (count, ((_, gap), ((_, rest), _)))))))))) =
      let name-stands = name-holds b long name good-name size name-is in
      let f = form-holds e in
      let no-nodes = no-nodes-is.1 (count, (gap, rest)) in (
        rw (form, slot_is, first, second, f.not_none, f.not-tree, f.known, f.firsts, f.seconds, name-stands.0, le-leb slot 2 h) no-nodes,
        rw (form, slot_is, first, second, f.not_none, f.not-tree, name-stands.1, f.back),
      )
  l-holds slot (as_tree name nodes) (h, (good-name, good)) reads =
      let (kind, (size, (name-is, (slot_is, (form, (first, (second, (count, ((_, gap), ((_, rest), _)))))))))) = reads in
      let name-stands = name-holds b long name good-name size name-is in
      let row = nodes-read slot name nodes good reads in
      let some = le-leb 1 (length nodes) good.some in
      let few = le-leb (length nodes) 32 good.few in
      let all-nodes = each_all (node_layout b) (length nodes) (λ k l. (row k l).0) in
      let same = tabled-of (node_in b) (Node.Num 0) nodes (λ k l. (row k l).1) in
      let zeros = rw (nodes-length nodes good) at rest in
      (rw (form, slot_is, first, second, name-stands.0, le-leb slot 2 h, count, some, few, gap, all-nodes) zeros, rw (form, slot_is, name-stands.1, count, same))
