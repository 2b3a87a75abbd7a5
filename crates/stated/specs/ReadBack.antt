-- What the functions of the layout read from a block: the items of what it states. Assumes nothing.
use Rattle.std.specs.Prelude.{◌≡◌, List, ℕ, ◌+◌, ◌<◌, length, get_or}
use Rattle.std.proofs.Math.Seq.{slice}
use Rattle.blocks.specs.declared.nodes.Node.{Node}
use Rattle.blocks.specs.Layout.{kind_of, kind_f, kind_l, kind_c, name_of, stated_bits, stated_repr, stated_arg, stated_gen, stated_default_kind, stated_fixed, stated_number, stated_count, stated_bytes_at}
use Rattle.blocks.specs.Layout.{stated_slot, stated_form, first_number, second_number, node_count, range_count, stated_range}
use Rattle.blocks.specs.Nodes.{node_in}
use Rattle.bounds.specs.declared.CondBounds.{CondBounds}
use Rattle.stated.specs.Items.{FieldItem, LengthItem, all_numbers, Item, field_item, length_item, cond_item}
use Rattle.stated.specs.Stated.{kind_of_default, fixed_of_default, number_of_default, bytes_of_default, name_of_length, form_of_length, first_of_length, second_of_length, nodes_of_length, range_codes}

-- of a field its items, and those of its default
pub record FieldReadBack (b : List ℕ) (f : FieldItem) : Type 0 where
  pub kind : kind_of b ≡ kind_f
  pub name : name_of b ≡ f.name
  pub bits : stated_bits b ≡ f.bits
  pub repr : stated_repr b ≡ f.repr
  pub arg : stated_arg b ≡ f.arg
  pub gen : stated_gen b ≡ f.gen
  pub default-kind : stated_default_kind b ≡ kind_of_default f.default
  pub fixed : stated_fixed b ≡ fixed_of_default f.default
  pub number : stated_number b ≡ number_of_default f.default
  pub count : stated_count b ≡ length (bytes_of_default f.default)
  pub bytes : slice stated_bytes_at (stated_bytes_at + stated_count b) b ≡ bytes_of_default f.default

-- of a length its slot, its name and its form, and each node of a tree
pub record LengthReadBack (b : List ℕ) (slot : ℕ) (l : LengthItem) : Type 0 where
  pub kind : kind_of b ≡ kind_l
  pub name : name_of b ≡ name_of_length l
  pub slots : stated_slot b ≡ slot
  pub form : stated_form b ≡ form_of_length l
  pub first : first_number b ≡ first_of_length l
  pub second : second_number b ≡ second_of_length l
  pub count : node_count b ≡ length (nodes_of_length l)
  pub nodes : (k : ℕ) → k < node_count b → node_in b k ≡ get_or (nodes_of_length l) k (Node.Num 0)

-- of a condition its name and each range, in the codes and numbers of a sheet
pub record CondReadBack (b : List ℕ) (name : List ℕ) (ranges : List CondBounds) : Type 0 where
  pub kind : kind_of b ≡ kind_c
  pub names : name_of b ≡ name
  pub count : range_count b ≡ length ranges
  pub each : (k : ℕ) → k < range_count b → stated_range b k ≡ range_codes (get_or ranges k all_numbers)

-- by what is stated
abbrev pub ReadBack : List ℕ → Item → Type 0
ReadBack b (field_item f) = FieldReadBack b f
ReadBack b (length_item slot l) = LengthReadBack b slot l
ReadBack b (cond_item name ranges) = CondReadBack b name ranges
