-- What holds of every field that step 2 accepts. Assumes nothing.
use Rattle.std.specs.Prelude.{◌≡◌, false, ◌⊎◌, ℕ, ◌/◌, ◌%◌, ◌^◌, ◌≤◌, ◌<◌}
use Rattle.number.specs.Numbers.{max_bits}
use Rattle.types.specs.declared.BuiltinTypes.{BuiltinTypes}
use Rattle.field.specs.declared.Span.{Span}
use Rattle.field.specs.declared.DefaultVal.{DefaultVal}
use Rattle.field.specs.declared.Field.{Field}

abbrev pub width_of : Field → ℕ
width_of f = f.width.0

pub record Sound (f : Field) : Type 0 where
  -- from 1 to 33,554,424 bits
  pub some_bits : 1 ≤ width_of f
  pub most-bits : width_of f ≤ max_bits
  -- whole bytes where it has over 64 bits, and where it is a byte slice, which has 2 of them at least
  pub wide-is-slice : 64 < width_of f → f.repr ≡ BuiltinTypes.ByteSlice
  pub slice-whole : f.repr ≡ BuiltinTypes.ByteSlice → width_of f % 8 ≡ 0
  pub slice-bits : f.repr ≡ BuiltinTypes.ByteSlice → 16 ≤ width_of f
  -- the repr is never bool
  pub never-bool : f.repr ≡ BuiltinTypes.Bool → ⊥
  -- a number default is below 2 ^ bits, and no byte slice has one
  pub number_fits : (n : ℕ) → f.default ≡ DefaultVal.Num n → n < 2 ^ width_of f
  pub number-field : (n : ℕ) → f.default ≡ DefaultVal.Num n → f.repr ≡ BuiltinTypes.ByteSlice → ⊥
  -- a byte default is that of a byte slice, states all its bytes or none, and is never fixed
  pub bytes-field : (s : Span) → f.default ≡ DefaultVal.Bytes s → f.repr ≡ BuiltinTypes.ByteSlice
  pub bytes_count : (s : Span) → f.default ≡ DefaultVal.Bytes s → (s.len ≡ width_of f / 8) ⊎ (s.len ≡ 0)
  pub bytes-free : (s : Span) → f.default ≡ DefaultVal.Bytes s → f.fixed ≡ false
  -- a default of kind bool is never accepted
  pub no-bool-default : (b : _) → f.default ≡ DefaultVal.Bool b → ⊥
