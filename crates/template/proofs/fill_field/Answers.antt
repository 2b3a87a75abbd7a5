-- `fill_field` meets its contract: a number is written as one, bytes where they start and as many as there are; no field has a bool. Assumes nothing.
use Rattle.template.proofs.Filling.{number-filled, bytes-filled, bytes-room, bytes_counted}
use Rattle.template.proofs.fill_field.Goals as goal

pub returns-in-Num : goal.returns-in-Num
returns-in-Num c =
    number-filled c.requires _ c.in-Num.is c.new.ensures c.write_number.ensures

pub returns-in-Bool : goal.returns-in-Bool
returns-in-Bool c = absurd (c.requires.sound.no-bool-default _ c.in-Bool.is)

pub fill_bytes-requires : goal.fill_bytes-requires
fill_bytes-requires c =
    let h = c.requires in
    let is = c.in-Bytes.is in
    let from = c.whole_bytes.ensures in
    let count = c.whole_bytes-in-Bytes.ensures in
    record {
      count_in_bounds = bytes-room h _ is from count;
      len_in_bounds = h.inside _ is;
      fact = bytes_counted h _ is from count;
    }

pub returns-in-Bytes : goal.returns-in-Bytes
returns-in-Bytes c =
    bytes-filled c.requires _ c.in-Bytes.is c.whole_bytes.ensures c.whole_bytes-in-Bytes.ensures c.fill_bytes.ensures
