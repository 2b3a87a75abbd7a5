-- Laws of the type inferred from a width. Assumes nothing.
use mathlib.Core.Path.{◌≡◌}
use mathlib.Core.Bool.{Bool, true, false, cond}
use Prim.Native.Nat.{ℕ, ◌≤◌, ◌<◌}
use native.Mathlib.Omega.{arith}
use lib.Dec.{leb, lit≤}
use borrow.Author.Tests.{le-leb, lt-leb}
use Rattle.types.specs.declared.BuiltinTypes.{BuiltinTypes}
use Rattle.types.specs.Types.{type_code}
use Rattle.field.specs.Fields.{infer_repr}

-- ---- the type inferred from a width

module _ (bits : ℕ) where
  pub infer-slice : 64 < bits → infer_repr bits ≡ BuiltinTypes.ByteSlice
  unfolding infer_repr
  infer-slice l = simp (lt-leb bits 8 (omega arith), lt-leb bits 16 (omega arith), lt-leb bits 32 (omega arith), lt-leb bits 64 l)

  -- to 64 bits a number's type, of the codes 1 to 4
  pub infer-number : bits ≤ 64 → type_code (infer_repr bits) ≤ 4
  unfolding infer_repr
  infer-number h = rw (le-leb bits 64 h) (tested (leb bits 8) (leb bits 16) (leb bits 32))
    where
      tested : (a b c : Bool) → type_code (cond a BuiltinTypes.U8 (cond b BuiltinTypes.U16 (cond c BuiltinTypes.U32 BuiltinTypes.U64))) ≤ 4
      tested true b c = lit≤ tt
      tested false true c = lit≤ tt
      tested false false true = lit≤ tt
      tested false false false = lit≤ tt
