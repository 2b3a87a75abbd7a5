-- The table holds: what is computed for each of its questions is what it expects. Assumes nothing.
use mathlib.Core.Path.{◌≡◌, refl}
use mathlib.Core.List.{map}
use Rattle.answer.specs.Paper.{first}
use Rattle.answer.specs.Walk.{each, first_where}
use Rattle.octets.specs.Octets.{be, all_in, is_zero, is_name_byte, same}
use Rattle.number.specs.Numbers.{max_value}
use Rattle.bits.specs.Bits.{bit, num}
use Rattle.bits.specs.Writes.{new_bit, pack, put}
use Rattle.blocks.specs.Layout.{named, name_of, codes_layout, default_layout, f_layout, tree_layout, l_layout, c_layout, layout_holds}
use Rattle.blocks.specs.Nodes.{node_in}
use Rattle.blocks.specs.Check.{check_holds}
use Rattle.stated.specs.Parts.{number_bytes, rows}
use Rattle.stated.specs.Stated.{block_of}
use Rattle.sheet.specs.Blocks.{block_at, count}
use Rattle.sheet.specs.Sheet as sheet
use Rattle.types.specs.Types.{type_of_code}
use Rattle.field.specs.Fields.{infer_repr, field_check}
use Rattle.layout.specs.Layout.{bits, defaults, fill, template}
use Rattle.layout.specs.Indexed.{fields_from, position}
use Rattle.header.specs.Starts.{header_layout}
use Rattle.header.specs.Step as header
use Rattle.expr.specs.Forms.{in64_bits, less, over}
use Rattle.slots.specs.Slots.{expr_in}
use Rattle.length.specs.Step as length
use Rattle.cond.specs.Ranges.{range_in}
use Rattle.cond.specs.Step as cond
use Rattle.definition.specs.Definition.{definition_check}
use Rattle.definition.specs.Unchecked.{entry_block}
use Rattle.cases.specs.Sheets.{sheet_of}
use Rattle.cases.specs.Table.{asked, table}

pub table-holds : map (λ c. asked c.question) table ≡ map (λ c. c.expected) table
unfolding first be all_in is_zero is_name_byte same check_holds max_value bit num new_bit pack put
    each named name_of codes_layout default_layout f_layout tree_layout l_layout c_layout layout_holds node_in
    first_where block_at count sheet.block_fault sheet.sheet_check type_of_code infer_repr field_check
    bits defaults fill template fields_from position header_layout header.header_fault header.header_check
    in64_bits less over expr_in length.length_field_fault length.length_fault length.length_check
    range_in cond.cond_fault cond.cond_check cond.range_numbers definition_check entry_block
    number_bytes rows block_of sheet_of asked table
table-holds = refl
