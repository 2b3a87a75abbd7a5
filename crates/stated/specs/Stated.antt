-- The 510 bytes that state an item: its parts, one after the other. Then the check word. Assumes nothing.
use Rattle.std.specs.Prelude.{Bool, cond, List, [], ◌∷◌, ◌++◌, ℕ, ◌-◌, length}
use Rattle.blocks.specs.declared.StatedRange.{StatedRange}
use Rattle.blocks.specs.declared.nodes.Node.{Node}
use Rattle.blocks.specs.Layout.{kind_f, kind_l, kind_c, undefined_form, tree_form}
use Rattle.blocks.specs.Ones.{words, ones_sum}
use Rattle.expr.specs.Forms.{form_number, first_in, second_in}
use Rattle.std.specs.declared.ops.Bound.{Bound}
use Rattle.bounds.specs.declared.CondBounds.{CondBounds}
use Rattle.stated.specs.Items.{a_number, some_bytes, a_bool, DefaultItem, no_default, a_default, FieldItem, LengthItem, undefined, as_form, as_tree, Item, field_item, length_item, cond_item}
use Rattle.stated.specs.Parts.{Part, one_byte, big_endian, padded, number_bytes, written, rows}

-- what every kind begins with: the kind, the length of the name, the name; then the rest
abbrev pub headed : ℕ → List ℕ → List Part → List Part
headed kind name rest = one_byte kind ∷ one_byte (length name) ∷ padded 64 name ∷ rest

-- ---- F

abbrev pub flag : Bool → ℕ
flag t = cond t 1 0

-- of a default its kind (0 absent, 1 number, 2 bytes, 3 bool), whether it is fixed, its number and its bytes
abbrev pub kind_of_default : DefaultItem → ℕ
kind_of_default no_default = 0
kind_of_default (a_default (a_number n) fixed) = 1
kind_of_default (a_default (some_bytes l) fixed) = 2
kind_of_default (a_default (a_bool t) fixed) = 3

abbrev pub fixed_of_default : DefaultItem → ℕ
fixed_of_default no_default = 0
fixed_of_default (a_default v fixed) = flag fixed

abbrev pub number_of_default : DefaultItem → ℕ
number_of_default no_default = 0
number_of_default (a_default (a_number n) fixed) = n
number_of_default (a_default (some_bytes l) fixed) = 0
number_of_default (a_default (a_bool t) fixed) = flag t

abbrev pub bytes_of_default : DefaultItem → List ℕ
bytes_of_default no_default = []
bytes_of_default (a_default (a_number n) fixed) = []
bytes_of_default (a_default (some_bytes l) fixed) = l
bytes_of_default (a_default (a_bool t) fixed) = []

-- kind; fixed; a zero; number; the count of its bytes; its bytes
abbrev pub default_parts : DefaultItem → List Part
default_parts d =
    one_byte (kind_of_default d) ∷ one_byte (fixed_of_default d) ∷ one_byte 0
    ∷ big_endian 8 (number_of_default d) ∷ big_endian 2 (length (bytes_of_default d)) ∷ padded 424 (bytes_of_default d) ∷ []

-- bits; repr; arg; gen; the default
abbrev pub field_parts : FieldItem → List Part
field_parts f =
    headed kind_f f.name
    (big_endian 4 f.bits ∷ one_byte f.repr ∷ one_byte f.arg ∷ one_byte f.gen ∷ default_parts f.default)

-- ---- L

-- of a length its name, its form, the form's two numbers, its nodes; of what it lacks nothing
abbrev pub name_of_length : LengthItem → List ℕ
name_of_length undefined = []
name_of_length (as_form name e) = name
name_of_length (as_tree name nodes) = name

abbrev pub form_of_length : LengthItem → ℕ
form_of_length undefined = undefined_form
form_of_length (as_form name e) = form_number e
form_of_length (as_tree name nodes) = tree_form

abbrev pub first_of_length : LengthItem → ℕ
first_of_length undefined = 0
first_of_length (as_form name e) = first_in e
first_of_length (as_tree name nodes) = 0

abbrev pub second_of_length : LengthItem → ℕ
second_of_length undefined = 0
second_of_length (as_form name e) = second_in e
second_of_length (as_tree name nodes) = 0

abbrev pub nodes_of_length : LengthItem → List Node
nodes_of_length undefined = []
nodes_of_length (as_form name e) = []
nodes_of_length (as_tree name nodes) = nodes

-- a node's kind (0 number, 1 the field, 2 +, 3 -, 4 *, 5 /), left, right, a zero, number
abbrev pub node_row : ℕ → ℕ → ℕ → ℕ → List Part
node_row kind left right n = one_byte kind ∷ one_byte left ∷ one_byte right ∷ one_byte 0 ∷ big_endian 8 n ∷ []

abbrev pub node_parts : Node → List Part
node_parts (Node.Num n) = node_row 0 0 0 n
node_parts Node.Ident = node_row 1 0 0 0
node_parts (Node.Add left right) = node_row 2 left right 0
node_parts (Node.Sub left right) = node_row 3 left right 0
node_parts (Node.Mul left right) = node_row 4 left right 0
node_parts (Node.Div left right) = node_row 5 left right 0

-- slot; form, its two numbers; the count of nodes, three zeros, the nodes
abbrev pub length_parts : ℕ → LengthItem → List Part
length_parts slot l =
    headed kind_l (name_of_length l)
    (one_byte slot ∷ one_byte (form_of_length l) ∷ big_endian 8 (first_of_length l) ∷ big_endian 8 (second_of_length l)
    ∷ one_byte (length (nodes_of_length l)) ∷ padded 3 [] ∷ padded 422 (rows node_parts (nodes_of_length l)) ∷ [])

-- ---- C

-- 0 none, 1 included, 2 excluded
abbrev pub bound_kind : Bound ℕ → ℕ
bound_kind Bound.Unbounded = 0
bound_kind (Bound.Included n) = 1
bound_kind (Bound.Excluded n) = 2

abbrev pub bound_number : Bound ℕ → ℕ
bound_number Bound.Unbounded = 0
bound_number (Bound.Included n) = n
bound_number (Bound.Excluded n) = n

-- a range in the codes and numbers of a sheet
abbrev pub range_codes : CondBounds → StatedRange
range_codes r =
    record { opens = bound_kind r.start; closes = bound_kind r.end; start = bound_number r.start; end = bound_number r.end }

-- start kind, end kind, start, end
abbrev pub range_parts : CondBounds → List Part
range_parts r = let c = range_codes r in one_byte c.opens ∷ one_byte c.closes ∷ big_endian 8 c.start ∷ big_endian 8 c.end ∷ []

-- the count of ranges, a zero, the ranges
abbrev pub cond_parts : List ℕ → List CondBounds → List Part
cond_parts name ranges = headed kind_c name (one_byte (length ranges) ∷ one_byte 0 ∷ padded 442 (rows range_parts ranges) ∷ [])

-- ---- any item

abbrev pub item_parts : Item → List Part
item_parts (field_item f) = field_parts f
item_parts (length_item slot l) = length_parts slot l
item_parts (cond_item name ranges) = cond_parts name ranges

unfoldable pub stated : Item → List ℕ
stated d = written (item_parts d)

-- with the check word after them, the complement of their sum: the block
unfoldable pub block_of : Item → List ℕ
unfolding stated
block_of d = let b = stated d in b ++ number_bytes 2 (65535 - ones_sum (words b))
