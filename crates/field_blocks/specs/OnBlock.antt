-- The items of an F block, byte by byte, and the field that they make. Assumes nothing.
use Rattle.std.specs.Prelude.{Bool, cond, List, ℕ, eqb, Option, Some, None}
use Rattle.answer.specs.Paper.{Answer, Check}
use Rattle.blocks.specs.Layout.{stated_bits, stated_repr, stated_arg, stated_gen, stated_default_kind, stated_fixed, stated_number, stated_count, stated_bytes_at}
use Rattle.types.specs.declared.BuiltinTypes.{BuiltinTypes}
use Rattle.types.specs.declared.Arg.{Arg}
use Rattle.types.specs.Types.{type_of_code}
use Rattle.field.specs.declared.DefaultVal.{DefaultVal}
use Rattle.field.specs.declared.Field.{Field}
use Rattle.field.specs.declared.Items.{Items}
use Rattle.field.specs.Fields.{field_check, field_of, new_field}

-- repr: 0 absent, else the type's code
abbrev pub repr_of_code : ℕ → Option BuiltinTypes
repr_of_code c = cond (eqb c 0) None (Some (type_of_code c))

abbrev pub repr_in : List ℕ → Option BuiltinTypes
repr_in b = repr_of_code (stated_repr b)

-- arg: the same codes, and 7 code
abbrev pub arg_of_code : ℕ → Option Arg
arg_of_code c = cond (eqb c 0) None (cond (eqb c 7) (Some Arg.Code) (Some (Arg.BuiltinTypes (type_of_code c))))

abbrev pub arg_in : List ℕ → Option Arg
arg_in b = arg_of_code (stated_arg b)

-- gen: 0 absent, 1 false, 2 true
abbrev pub gen_of_code : ℕ → Option Bool
gen_of_code c = cond (eqb c 0) None (Some (eqb c 2))

abbrev pub gen_in : List ℕ → Option Bool
gen_in b = gen_of_code (stated_gen b)

-- default kind: 0 absent, 1 number, 2 bytes, 3 bool; bytes are told by where they stand
abbrev pub value_in : List ℕ → DefaultVal
value_in b =
    cond (eqb (stated_default_kind b) 1) (DefaultVal.Num (stated_number b))
    (cond (eqb (stated_default_kind b) 2) (DefaultVal.Bytes (record { at = stated_bytes_at; len = stated_count b })) (DefaultVal.Bool (eqb (stated_number b) 1)))

abbrev pub default_in : List ℕ → Option (DefaultVal × Bool)
default_in b = cond (eqb (stated_default_kind b) 0) None (Some (value_in b, eqb (stated_fixed b) 1))

-- all that a block states of its field
abbrev pub items_in : List ℕ → Items
items_in b = record { width = record { 0 = stated_bits b }; repr = repr_in b; arg = arg_in b; default = default_in b; generate = gen_in b }

-- field 1 to 7 of a block, with this place
abbrev pub block_check : List ℕ → ℕ → Check
block_check b place = field_check place (stated_bits b) (repr_in b) (arg_in b) (default_in b)

-- the items of a block with every absent one resolved, checked or not
abbrev pub resolved_in : List ℕ → Field
resolved_in b = field_of (stated_bits b) (repr_in b) (arg_in b) (default_in b) (gen_in b)

-- the field of a block, or the refusal with this place
abbrev pub field_in : List ℕ → ℕ → Answer Field
field_in b place = new_field place (stated_bits b) (repr_in b) (arg_in b) (default_in b) (gen_in b)
