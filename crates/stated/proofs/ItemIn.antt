-- The item that a block states, put together from what the functions of the layout read in it: the working of the proofs. Assumes nothing.
use mathlib.Core.Bool.{cond}
use mathlib.Core.List.{List}
use Prim.Native.Nat.{ℕ, ◌+◌}
use lib.Dec.{eqb}
use lib.Seq.{slice}
use Rattle.blocks.specs.declared.StatedRange.{StatedRange}
use Rattle.blocks.specs.Layout.{kind_of, is_f, is_l, name_of, stated_bits, stated_repr, stated_arg, stated_gen, stated_default_kind, stated_fixed, stated_number, stated_count, stated_bytes_at}
use Rattle.blocks.specs.Layout.{stated_slot, stated_form, first_number, second_number, undefined_form, tree_form, node_count, range_count, stated_range}
use Rattle.blocks.specs.Nodes.{node_in}
use Rattle.expr.specs.declared.UsableAlgExpr.{UsableAlgExpr}
use Rattle.std.specs.declared.ops.Bound.{Bound}
use Rattle.bounds.specs.declared.CondBounds.{CondBounds}
use Rattle.stated.specs.Items.{a_number, some_bytes, a_bool, DefaultItem, no_default, a_default, FieldItem, LengthItem, undefined, as_form, as_tree, Item, field_item, length_item, cond_item}
use Rattle.stated.proofs.Tables.{tabled}

-- ---- F

abbrev pub default_from : ℕ → ℕ → ℕ → List ℕ → DefaultItem
default_from kind fixed number bytes =
    cond (eqb kind 0) no_default
    (a_default (cond (eqb kind 1) (a_number number) (cond (eqb kind 2) (some_bytes bytes) (a_bool (eqb number 1)))) (eqb fixed 1))

abbrev pub field_in : List ℕ → FieldItem
field_in b =
    record {
      name = name_of b;
      bits = stated_bits b;
      repr = stated_repr b;
      arg = stated_arg b;
      gen = stated_gen b;
      default = default_from (stated_default_kind b) (stated_fixed b) (stated_number b) (slice stated_bytes_at (stated_bytes_at + stated_count b) b);
    }

-- ---- L

abbrev pub form_from : ℕ → ℕ → ℕ → UsableAlgExpr
form_from form first second =
    cond (eqb form 1) UsableAlgExpr.IdentOnly
    (cond (eqb form 2) (UsableAlgExpr.SimpleAdd first)
    (cond (eqb form 3) (UsableAlgExpr.SimpleMult first)
    (cond (eqb form 4) (UsableAlgExpr.AddMult first second) (UsableAlgExpr.MultAdd first second))))

abbrev pub length_in : List ℕ → LengthItem
length_in b =
    cond (eqb (stated_form b) undefined_form) undefined
    (cond (eqb (stated_form b) tree_form) (as_tree (name_of b) (tabled (node_in b) (node_count b)))
    (as_form (name_of b) (form_from (stated_form b) (first_number b) (second_number b))))

-- ---- C

abbrev pub bound_from : ℕ → ℕ → Bound ℕ
bound_from kind number = cond (eqb kind 0) Bound.Unbounded (cond (eqb kind 1) (Bound.Included number) (Bound.Excluded number))

abbrev pub bounds_from : StatedRange → CondBounds
bounds_from r = record { start = bound_from r.opens r.start; end = bound_from r.closes r.end }

unfoldable pub bounds_in : List ℕ → ℕ → CondBounds
bounds_in b k = bounds_from (stated_range b k)

-- ---- by kind

unfoldable pub item_in : List ℕ → Item
item_in b =
    cond (is_f (kind_of b)) (field_item (field_in b))
    (cond (is_l (kind_of b)) (length_item (stated_slot b) (length_in b)) (cond_item (name_of b) (tabled (bounds_in b) (range_count b))))
