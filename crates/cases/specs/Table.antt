-- The table of cases: both sides of the lines that the rules draw, each a question and what is answered to it. Assumes nothing.
use Rattle.std.specs.Prelude.{Bool, false, List, [], ◌∷◌, ℕ, replicate, Option, None, Some}
use Rattle.answer.specs.declared.Group.{Group}
use Rattle.answer.specs.Paper.{Check, accepted, refused}
use Rattle.blocks.specs.declared.nodes.Node.{Node}
use Rattle.types.specs.declared.BuiltinTypes.{BuiltinTypes}
use Rattle.types.specs.declared.Arg.{Arg}
use Rattle.field.specs.declared.DefaultVal.{DefaultVal}
use Rattle.field.specs.Fields.{field_check}
use Rattle.layout.specs.Layout.{template}
use Rattle.header.specs.Starts.{header_layout}
use Rattle.header.specs.Step.{header_bytes}
use Rattle.expr.specs.declared.UsableAlgExpr.{UsableAlgExpr}
use Rattle.expr.specs.Forms.{back}
use Rattle.definition.specs.Definition.{definition_check}
use Rattle.definition.specs.Unchecked.{cond_range}
use Rattle.stated.specs.Items.{Item}
use Rattle.cases.specs.Sheets.{plain, preset, preset_bytes, measure, preset_measure, header_len, payload_len, packet_len}
use Rattle.cases.specs.Sheets.{slot_holds, slot_holds_times, slot_holds_tree, condition, below, ◌to◌, ◌to_below◌, sheet_of}

-- ---- questions and outcomes

pub data Question : Type 0 where
  -- the verdict on a sheet
  verdict : List Item → Question
  -- step 2 of the items of one field alone
  field_alone : (bits : ℕ) → Option BuiltinTypes → Option Arg → Option (DefaultVal × Bool) → Question
  -- the header of a sheet: how many bytes it has, and its template
  header : List Item → Question
  -- the first and the last number of range j of condition k of a sheet
  range : List Item → (k j : ℕ) → Question
  -- the value that an expression gives back from the length y
  back_from : UsableAlgExpr → (y : ℕ) → Question

pub data Outcome : Type 0 where
  answer : Check → Outcome
  header_is : (bytes : ℕ) (template : List ℕ) → Outcome
  numbers : Option (ℕ × ℕ) → Outcome
  value : Option ℕ → Outcome

-- which definition answers a question
unfoldable pub asked : Question → Outcome
asked (verdict blocks) = answer (definition_check (sheet_of blocks))
asked (field_alone bits repr arg default) = answer (field_check 0 bits repr arg default)
asked (header blocks) = header_is (header_bytes (sheet_of blocks)) (template (header_layout (sheet_of blocks)))
asked (range blocks k j) = numbers (cond_range (sheet_of blocks) k j)
asked (back_from e y) = value (back e y)

pub record Case : Type 0 where
  pub question : Question
  pub expected : Outcome

infix 70 ◌is◌
abbrev ◌is◌ : Question → Outcome → Case
q is o = record { question = q; expected = o }

-- ---- items of a field alone

abbrev no_repr : Option BuiltinTypes
no_repr = None

abbrev as_slice : Option BuiltinTypes
as_slice = Some BuiltinTypes.ByteSlice

abbrev no_arg : Option Arg
no_arg = None

abbrev as_bool : Option Arg
as_bool = Some (Arg.BuiltinTypes BuiltinTypes.Bool)

abbrev absent_default : Option (DefaultVal × Bool)
absent_default = None

abbrev default : ℕ → Option (DefaultVal × Bool)
default n = Some (DefaultVal.Num n, false)

-- ---- the header of RFC 791 without options: version 4, an IHL, the rest 0; and the header's length is IHL * 4
abbrev rfc791 : ℕ → List Item
rfc791 ihl =
    preset "version" 4 4
    ∷ preset_measure "ihl" 4 ihl
    ∷ plain "tos" 8
    ∷ plain "total" 16
    ∷ plain "id" 16
    ∷ plain "flags" 3
    ∷ plain "offset" 13
    ∷ plain "ttl" 8
    ∷ plain "protocol" 8
    ∷ plain "checksum" 16
    ∷ plain "source" 32
    ∷ plain "destination" 32
    ∷ slot_holds_times header_len "ihl" 4
    ∷ []

-- ---- two bytes by default, between two fields that share a byte and two that share another
abbrev around_bytes : List Item
around_bytes = preset "a" 3 5 ∷ preset "b" 5 1 ∷ preset_bytes "c" 16 (0xde ∷ 0xad ∷ []) ∷ preset "d" 4 12 ∷ preset "e" 4 3 ∷ []

-- ---- the table. Where the fields that a case is about end inside a byte, one more field fills it
unfoldable pub table : List Case
table =
    -- after 7 bits a field of 57 is accepted and one of 58 is header 3, as is one of 64 after 1: it touches a ninth byte
    verdict (plain "a" 7 ∷ plain "b" 57 ∷ []) is answer accepted
    ∷ verdict (plain "a" 7 ∷ plain "b" 58 ∷ plain "c" 7 ∷ []) is answer (refused Group.Header 3 1)
    ∷ verdict (plain "a" 1 ∷ plain "b" 64 ∷ plain "c" 7 ∷ []) is answer (refused Group.Header 3 1)
    -- over 64 bits only whole bytes: 65 is field 1, 72 is accepted; and at most 4,194,303 of them: one more is field 1
    ∷ field_alone 65 no_repr no_arg absent_default is answer (refused Group.Field 1 0)
    ∷ field_alone 72 no_repr no_arg absent_default is answer accepted
    ∷ field_alone 33_554_424 no_repr no_arg absent_default is answer accepted
    ∷ field_alone 33_554_432 no_repr no_arg absent_default is answer (refused Group.Field 1 0)
    -- a byte slice of 16 bits is accepted, one of 8 is field 2
    ∷ field_alone 16 as_slice no_arg absent_default is answer accepted
    ∷ field_alone 8 as_slice no_arg absent_default is answer (refused Group.Field 2 0)
    -- in 3 bits the default 7 has room and 8 is field 6; 2 for a bool is field 4
    ∷ field_alone 3 no_repr no_arg (default 7) is answer accepted
    ∷ field_alone 3 no_repr no_arg (default 8) is answer (refused Group.Field 6 0)
    ∷ field_alone 1 no_repr as_bool (default 2) is answer (refused Group.Field 4 0)
    -- a payload of x bytes: the largest x of 22 bits is just the limit, that of 23 bits is length 9
    ∷ verdict (measure "x" 22 ∷ plain "y" 2 ∷ slot_holds payload_len "x" ∷ []) is answer accepted
    ∷ verdict (measure "x" 23 ∷ plain "y" 1 ∷ slot_holds payload_len "x" ∷ []) is answer (refused Group.Length 9 2)
    -- the lengths of payload and packet together are length 1, those of header and payload are accepted
    ∷ verdict (measure "x" 8 ∷ measure "y" 8 ∷ slot_holds payload_len "x" ∷ slot_holds packet_len "y" ∷ []) is answer (refused Group.Length 1 4)
    ∷ verdict (preset_measure "x" 8 2 ∷ measure "y" 8 ∷ slot_holds header_len "x" ∷ slot_holds payload_len "y" ∷ []) is answer accepted
    -- as a tree 4 * (x + 2) is accepted; x - 2 is none of the five forms, length 12
    ∷ verdict (measure "x" 8 ∷ slot_holds_tree payload_len "x" (Node.Ident ∷ Node.Num 2 ∷ Node.Add 0 1 ∷ Node.Num 4 ∷ Node.Mul 3 2 ∷ []) ∷ []) is answer accepted
    ∷ verdict (measure "x" 8 ∷ slot_holds_tree payload_len "x" (Node.Ident ∷ Node.Num 2 ∷ Node.Sub 0 1 ∷ []) ∷ []) is answer (refused Group.Length 12 1)
    -- cut to the values of 8 bits, what lies below 256 is 0 to 255, and 300 to 400 is empty, cond 4
    ∷ verdict (plain "x" 8 ∷ condition "x" (below 256 ∷ []) ∷ []) is answer accepted
    ∷ range (plain "x" 8 ∷ condition "x" (below 256 ∷ []) ∷ []) 0 0 is numbers (Some (0, 255))
    ∷ verdict (plain "x" 8 ∷ condition "x" (300 to 400 ∷ []) ∷ []) is answer (refused Group.Cond 4 1)
    -- 4 to 9 may stand beside 0 to below 4; with 0 to below 5 it has a number in common, cond 6
    ∷ verdict (plain "x" 8 ∷ condition "x" (0 to_below 4 ∷ 4 to 9 ∷ []) ∷ []) is answer accepted
    ∷ verdict (plain "x" 8 ∷ condition "x" (0 to_below 5 ∷ 4 to 9 ∷ []) ∷ []) is answer (refused Group.Cond 6 1)
    -- of two ranges the second, which ends before 16, has the numbers 8 to 15
    ∷ range (plain "x" 8 ∷ condition "x" (0 to 3 ∷ 8 to_below 16 ∷ []) ∷ []) 0 1 is numbers (Some (8, 15))
    -- bytes stand as they are between fields that share a byte: 101 00001, de ad, 1100 0011
    ∷ header around_bytes is header_is 4 (0xa1 ∷ 0xde ∷ 0xad ∷ 0xc3 ∷ [])
    ∷ verdict around_bytes is answer accepted
    -- the header of RFC 791 has 20 bytes, 45 and zeros; as its length IHL * 4 is accepted with IHL 5, and with IHL 4 it is length 10
    ∷ header (rfc791 5) is header_is 20 (0x45 ∷ replicate 19 0)
    ∷ verdict (rfc791 5) is answer accepted
    ∷ verdict (rfc791 4) is answer (refused Group.Length 10 12)
    -- (x + 2) * 4 gives 5 back from 28, and nothing from 30, which is no multiple of 4, nor from 4, which is less than 2 * 4
    ∷ back_from (UsableAlgExpr.AddMult 2 4) 28 is value (Some 5)
    ∷ back_from (UsableAlgExpr.AddMult 2 4) 30 is value None
    ∷ back_from (UsableAlgExpr.AddMult 2 4) 4 is value None
    ∷ []
