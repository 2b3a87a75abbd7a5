-- When the program can fill a field: its own working, which contracts of private functions cite. No statement rests on it. Assumes nothing.
use Rattle.std.specs.Prelude.{◌≡◌, List, ℕ, ◌+◌, ◌*◌, ◌≤◌, length}
use Rattle.field.specs.declared.Span.{Span}
use Rattle.field.specs.declared.DefaultVal.{DefaultVal}
use Rattle.field.specs.declared.Field.{Field}
use Rattle.field.specs.Sound.{Sound, width_of}
use Rattle.layout.specs.Layout.{GoodField}
use Rattle.header.specs.Starts.{as_header_field}

-- the field of block b that starts at bit s can be filled in a buffer
pub record Fillable (buf b : List ℕ) (f : Field) (s : ℕ) : Type 0 where
  pub sound : Sound f
  pub good : GoodField s (as_header_field b f)
  pub room : s + width_of f ≤ 8 * length buf
  pub inside : (span : Span) → f.default ≡ DefaultVal.Bytes span → span.at + span.len ≤ length b
