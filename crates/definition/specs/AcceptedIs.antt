-- What exactly is accepted, step by step, said of what the sheet states and not of the tests. Assumes nothing.
use Rattle.std.specs.Prelude.{List, ℕ}
use Rattle.sheet.specs.SheetIs.{SheetIs}
use Rattle.field_blocks.specs.FieldsAre.{FieldsAre}
use Rattle.header.specs.HeaderIs.{HeaderIs}
use Rattle.header.specs.Step.{header_bytes}
use Rattle.length.specs.LengthsAre.{LengthsAre}
use Rattle.cond.specs.ConditionsAre.{ConditionsAre}

pub record AcceptedIs (s : List ℕ) : Type 0 where
  pub sheet : SheetIs s
  pub fields : FieldsAre s
  pub header : HeaderIs s
  pub lengths : LengthsAre s (header_bytes s)
  pub conditions : ConditionsAre s
