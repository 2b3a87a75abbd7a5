-- The loop of `BuiltinTypes::from`. Assumes nothing.
use Rattle.std.proofs.Common.{◌≡◌, ℕ, ◌<◌, get_or, false}
use Rattle.octets.specs.Octets.{same}
use Rattle.types.specs.declared.BuiltinTypes.{BuiltinTypes}
use Rattle.types.specs.Types.{type_name}
use Rattle.types.proofs.BuiltinTypes.from.Given as goal

-- no type before this one has the name
abbrev pub invariant-loop-t : goal.invariant-loop-t
invariant-loop-t l = (k : ℕ) → k < l.t-index → same l.value (type_name (get_or l.t-items k BuiltinTypes.U8)) ≡ false
