-- The built-in types: their codes on the sheet and their names. Assumes nothing.
use Rattle.std.specs.Prelude.{Bool, cond, List, ℕ, eqb}
use Rattle.answer.specs.declared.Group.{Group}
use Rattle.answer.specs.Paper.{Answer, gives, refused}
use Rattle.octets.specs.Octets.{same}
use Rattle.octets.specs.Ascii.{ascii}
use Rattle.types.specs.declared.BuiltinTypes.{BuiltinTypes}
use Rattle.types.specs.declared.Arg.{Arg}

-- the codes of repr and arg: 1 u8, 2 u16, 3 u32, 4 u64, 5 byte slice, 6 bool; 7 code, for arg alone
abbrev pub type_code : BuiltinTypes → ℕ
type_code BuiltinTypes.U8 = 1
type_code BuiltinTypes.U16 = 2
type_code BuiltinTypes.U32 = 3
type_code BuiltinTypes.U64 = 4
type_code BuiltinTypes.ByteSlice = 5
type_code BuiltinTypes.Bool = 6

abbrev pub arg_code : Arg → ℕ
arg_code (Arg.BuiltinTypes t) = type_code t
arg_code Arg.Code = 7

-- the type of a code from 1 to 6
unfoldable pub type_of_code : ℕ → BuiltinTypes
type_of_code code =
    cond (eqb code 1) BuiltinTypes.U8
    (cond (eqb code 2) BuiltinTypes.U16
    (cond (eqb code 3) BuiltinTypes.U32
    (cond (eqb code 4) BuiltinTypes.U64
    (cond (eqb code 5) BuiltinTypes.ByteSlice BuiltinTypes.Bool))))

abbrev pub same_type : BuiltinTypes → BuiltinTypes → Bool
same_type t u = eqb (type_code t) (type_code u)

abbrev pub is_slice : BuiltinTypes → Bool
is_slice t = same_type t BuiltinTypes.ByteSlice

abbrev pub is_bool_type : BuiltinTypes → Bool
is_bool_type t = same_type t BuiltinTypes.Bool

-- ---- names: u8, u16, u32, u64, &[u8], bool

abbrev pub type_name : BuiltinTypes → List ℕ
type_name BuiltinTypes.U8 = ascii "u8"
type_name BuiltinTypes.U16 = ascii "u16"
type_name BuiltinTypes.U32 = ascii "u32"
type_name BuiltinTypes.U64 = ascii "u64"
type_name BuiltinTypes.ByteSlice = ascii "&[u8]"
type_name BuiltinTypes.Bool = ascii "bool"

-- the type with this name, byte for byte; any other name is type 1
unfoldable pub type_from : List ℕ → Answer BuiltinTypes
type_from name =
    cond (same name (type_name BuiltinTypes.U8)) (gives BuiltinTypes.U8)
    (cond (same name (type_name BuiltinTypes.U16)) (gives BuiltinTypes.U16)
    (cond (same name (type_name BuiltinTypes.U32)) (gives BuiltinTypes.U32)
    (cond (same name (type_name BuiltinTypes.U64)) (gives BuiltinTypes.U64)
    (cond (same name (type_name BuiltinTypes.ByteSlice)) (gives BuiltinTypes.ByteSlice)
    (cond (same name (type_name BuiltinTypes.Bool)) (gives BuiltinTypes.Bool)
    (refused Group.Type 1 0))))))
