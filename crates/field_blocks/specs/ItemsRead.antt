-- A field's items by the codes of a sheet, and what step 2 reads of a block that states a field. Assumes nothing.
use Rattle.std.specs.Prelude.{◌≡◌, Bool, true, false, List, ℕ, length, Option, Some, None}
use Rattle.blocks.specs.Layout.{stated_bits, stated_bytes_at}
use Rattle.stated.specs.Items.{ValueItem, a_number, some_bytes, a_bool, DefaultItem, no_default, a_default, FieldItem}
use Rattle.types.specs.declared.BuiltinTypes.{BuiltinTypes}
use Rattle.types.specs.declared.Arg.{Arg}
use Rattle.types.specs.Types.{type_code, arg_code}
use Rattle.field.specs.declared.DefaultVal.{DefaultVal}
use Rattle.field_blocks.specs.OnBlock.{repr_in, arg_in, gen_in, default_in}

-- repr and arg: 0 absent, else their code
abbrev pub defined_repr_code : Option BuiltinTypes → ℕ
defined_repr_code None = 0
defined_repr_code (Some t) = type_code t

abbrev pub defined_arg_code : Option Arg → ℕ
defined_arg_code None = 0
defined_arg_code (Some a) = arg_code a

-- gen: 0 absent, 1 false, 2 true
abbrev pub defined_gen_code : Option Bool → ℕ
defined_gen_code None = 0
defined_gen_code (Some false) = 1
defined_gen_code (Some true) = 2

-- a default, bytes by where they stand in the block
abbrev pub defined_value : ValueItem → DefaultVal
defined_value (a_number n) = DefaultVal.Num n
defined_value (some_bytes l) = DefaultVal.Bytes (record { at = stated_bytes_at; len = length l })
defined_value (a_bool t) = DefaultVal.Bool t

abbrev pub defined_default : DefaultItem → Option (DefaultVal × Bool)
defined_default no_default = None
defined_default (a_default v fixed) = Some (defined_value v, fixed)

-- what is read of the block is what it states
pub record ItemsRead (b : List ℕ) (f : FieldItem) : Type 0 where
  pub bits : stated_bits b ≡ f.bits
  pub repr : defined_repr_code (repr_in b) ≡ f.repr
  pub arg : defined_arg_code (arg_in b) ≡ f.arg
  pub gen : defined_gen_code (gen_in b) ≡ f.gen
  pub default : default_in b ≡ defined_default f.default
