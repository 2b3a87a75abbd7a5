-- Sheets of bytes, from short descriptions of what their blocks state. Assumes nothing.
use Rattle.std.specs.Prelude.{false, List, [], ◌∷◌, ◌++◌, ℕ}
use Prim.Native.String.{String}
use Rattle.octets.specs.Ascii.{ascii}
use Rattle.blocks.specs.declared.nodes.Node.{Node}
use Rattle.expr.specs.declared.UsableAlgExpr.{UsableAlgExpr}
use Rattle.std.specs.declared.ops.Bound.{Bound}
use Rattle.bounds.specs.declared.CondBounds.{CondBounds}
use Rattle.stated.specs.Items.{a_number, some_bytes, DefaultItem, no_default, a_default, as_form, as_tree, Item, field_item, length_item, cond_item}
use Rattle.stated.specs.Stated.{block_of}

-- ---- fields

-- repr, arg and gen by their codes, 0 for an absent one
abbrev a_field : String → (bits repr arg gen : ℕ) → DefaultItem → Item
a_field name bits repr arg gen default = field_item (record { name = ascii name; bits = bits; repr = repr; arg = arg; gen = gen; default = default })

-- a field of so many bits, every other item absent
abbrev pub plain : String → ℕ → Item
plain name bits = a_field name bits 0 0 0 no_default

-- with a number for its default; with arg bool besides
abbrev pub preset : String → ℕ → ℕ → Item
preset name bits n = a_field name bits 0 0 0 (a_default (a_number n) false)

abbrev pub preset_bool : String → ℕ → ℕ → Item
preset_bool name bits n = a_field name bits 0 6 0 (a_default (a_number n) false)

-- a byte slice, with bytes for its default
abbrev pub preset_bytes : String → ℕ → List ℕ → Item
preset_bytes name bits l = a_field name bits 5 0 0 (a_default (some_bytes l) false)

-- with gen false, as a length asks of its field; and with a default too
abbrev pub measure : String → ℕ → Item
measure name bits = a_field name bits 0 0 1 no_default

abbrev pub preset_measure : String → ℕ → ℕ → Item
preset_measure name bits n = a_field name bits 0 0 1 (a_default (a_number n) false)

-- ---- lengths

-- the slots
abbrev pub header_len : ℕ
header_len = 0

abbrev pub payload_len : ℕ
payload_len = 1

abbrev pub packet_len : ℕ
packet_len = 2

-- a slot that holds x, one that holds x * m, one that holds a tree
abbrev pub slot_holds : ℕ → String → Item
slot_holds slot name = length_item slot (as_form (ascii name) UsableAlgExpr.IdentOnly)

abbrev pub slot_holds_times : ℕ → String → ℕ → Item
slot_holds_times slot name m = length_item slot (as_form (ascii name) (UsableAlgExpr.SimpleMult m))

abbrev pub slot_holds_tree : ℕ → String → List Node → Item
slot_holds_tree slot name nodes = length_item slot (as_tree (ascii name) nodes)

-- ---- conditions

abbrev pub condition : String → List CondBounds → Item
condition name ranges = cond_item (ascii name) ranges

-- a range with no start and an excluded end; with an included start, and an end that is included or excluded
abbrev pub below : ℕ → CondBounds
below e = record { start = Bound.Unbounded; end = Bound.Excluded e }

infix 70 ◌to◌
abbrev pub ◌to◌ : ℕ → ℕ → CondBounds
a to e = record { start = Bound.Included a; end = Bound.Included e }

infix 70 ◌to_below◌
abbrev pub ◌to_below◌ : ℕ → ℕ → CondBounds
a to_below e = record { start = Bound.Included a; end = Bound.Excluded e }

-- ---- bytes: block after block
unfoldable pub sheet_of : List Item → List ℕ
sheet_of [] = []
sheet_of (d ∷ ds) = block_of d ++ sheet_of ds
