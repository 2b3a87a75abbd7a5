-- What a block states: a field, a length or a condition; and when that is well formed. Assumes nothing.
use Rattle.std.specs.Prelude.{◌≡◌, Bool, true, List, ℕ, ◌^◌, ◌≤◌, ◌<◌, length, get_or}
use Rattle.octets.specs.Octets.{AreBytes, all, is_name_byte}
use Rattle.blocks.specs.declared.nodes.Node.{Node}
use Rattle.expr.specs.declared.UsableAlgExpr.{UsableAlgExpr}
use Rattle.expr.specs.Forms.{first_in, second_in}
use Rattle.std.specs.declared.ops.Bound.{Bound}
use Rattle.bounds.specs.declared.CondBounds.{CondBounds}

-- a name: 1 to 64 bytes, each from 33 to 126
pub record WellFormedName (name : List ℕ) : Type 0 where
  pub some : 1 ≤ length name
  pub few : length name ≤ 64
  pub plain : all is_name_byte name ≡ true

-- ---- F: a field

pub data ValueItem : Type 0 where
  a_number : ℕ → ValueItem
  some_bytes : List ℕ → ValueItem
  a_bool : Bool → ValueItem

-- none, or a value and whether it is fixed
pub data DefaultItem : Type 0 where
  no_default : DefaultItem
  a_default : ValueItem → (fixed : Bool) → DefaultItem

-- repr 0 absent, 1 u8, 2 u16, 3 u32, 4 u64, 5 byte slice, 6 bool; arg the same and 7 code; gen 0 absent, 1 false, 2 true
pub record FieldItem : Type 0 where
  pub name : List ℕ
  pub bits : ℕ
  pub repr : ℕ
  pub arg : ℕ
  pub gen : ℕ
  pub default : DefaultItem

-- a number of 64 bits; at most 424 bytes; any bool
abbrev pub WellFormedValue : ValueItem → Type 0
WellFormedValue (a_number n) = n < 2 ^ 64
WellFormedValue (some_bytes l) = (length l ≤ 424) × AreBytes l
WellFormedValue (a_bool t) = Unit {0}

abbrev pub WellFormedDefault : DefaultItem → Type 0
WellFormedDefault no_default = Unit {0}
WellFormedDefault (a_default v fixed) = WellFormedValue v

pub record WellFormedField (f : FieldItem) : Type 0 where
  pub named : WellFormedName f.name
  pub bits : f.bits < 2 ^ 32
  pub repr : f.repr ≤ 6
  pub arg : f.arg ≤ 7
  pub gen : f.gen ≤ 2
  pub default : WellFormedDefault f.default

-- ---- L: a length

-- undefined; of the field of a name one of the five forms, or a tree as the list of its nodes
pub data LengthItem : Type 0 where
  undefined : LengthItem
  as_form : (name : List ℕ) → UsableAlgExpr → LengthItem
  as_tree : (name : List ℕ) → List Node → LengthItem

pub record WellFormedForm (e : UsableAlgExpr) : Type 0 where
  pub first : first_in e < 2 ^ 64
  pub second : second_in e < 2 ^ 64

-- node k: the children of an operator have smaller indexes
abbrev pub WellFormedNode : ℕ → Node → Type 0
WellFormedNode k (Node.Num n) = n < 2 ^ 64
WellFormedNode k Node.Ident = Unit {0}
WellFormedNode k (Node.Add left right) = (left < k) × (right < k)
WellFormedNode k (Node.Sub left right) = (left < k) × (right < k)
WellFormedNode k (Node.Mul left right) = (left < k) × (right < k)
WellFormedNode k (Node.Div left right) = (left < k) × (right < k)

pub record WellFormedNodes (nodes : List Node) : Type 0 where
  pub some : 1 ≤ length nodes
  pub few : length nodes ≤ 32
  pub each : (k : ℕ) → k < length nodes → WellFormedNode k (get_or nodes k (Node.Num 0))

abbrev pub WellFormedLength : LengthItem → Type 0
WellFormedLength undefined = Unit {0}
WellFormedLength (as_form name e) = WellFormedName name × WellFormedForm e
WellFormedLength (as_tree name nodes) = WellFormedName name × WellFormedNodes nodes

-- ---- C: a condition, as the ranges of a field's value

-- no start is excluded
abbrev pub WellFormedStart : Bound ℕ → Type 0
WellFormedStart Bound.Unbounded = Unit {0}
WellFormedStart (Bound.Included n) = n < 2 ^ 64
WellFormedStart (Bound.Excluded n) = ⊥

abbrev pub WellFormedEnd : Bound ℕ → Type 0
WellFormedEnd Bound.Unbounded = Unit {0}
WellFormedEnd (Bound.Included n) = n < 2 ^ 64
WellFormedEnd (Bound.Excluded n) = n < 2 ^ 64

abbrev pub WellFormedRange : CondBounds → Type 0
WellFormedRange r = WellFormedStart r.start × WellFormedEnd r.end

abbrev pub all_numbers : CondBounds
all_numbers = record { start = Bound.Unbounded; end = Bound.Unbounded }

pub record WellFormedRanges (ranges : List CondBounds) : Type 0 where
  pub few : length ranges ≤ 24
  pub each : (k : ℕ) → k < length ranges → WellFormedRange (get_or ranges k all_numbers)

-- ---- a block: a field; a slot (0 header_len, 1 payload_len, 2 packet_len) and its length; a name and its ranges

pub data Item : Type 0 where
  field_item : FieldItem → Item
  length_item : (slot : ℕ) → LengthItem → Item
  cond_item : (name : List ℕ) → List CondBounds → Item

abbrev pub WellFormed : Item → Type 0
WellFormed (field_item f) = WellFormedField f
WellFormed (length_item slot l) = (slot ≤ 2) × WellFormedLength l
WellFormed (cond_item name ranges) = WellFormedName name × WellFormedRanges ranges
