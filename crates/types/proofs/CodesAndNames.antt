-- Laws of the types: their codes and names tell them apart, and a name read back is its type. Assumes nothing.
use mathlib.Core.Path.{◌≡◌, refl, sym, ap, ◌∙◌}
use mathlib.Core.Bool.{Bool, true, false, cond}
use mathlib.Core.List.{List}
use mathlib.Core.Logic.{◌↔◌}
use Prim.Native.Nat.{ℕ}
use borrow.Author.Tests.{eqb-true, eqb-false, eq-eqb}
use Rattle.answer.specs.declared.Group.{Group}
use Rattle.answer.specs.Paper.{Answer, gives, refused}
use Rattle.answer.proofs.Tests.{fails-is}
use Rattle.octets.specs.Octets.{same}
use Rattle.octets.proofs.Octets.{same-equal}
use Rattle.types.specs.declared.BuiltinTypes.{BuiltinTypes}
use Rattle.types.specs.Types.{type_code, same_type, is_slice, type_of_code, type_name, type_from}

-- ---- codes

-- a code read back is its type
pub type-of-code : (t : BuiltinTypes) → type_of_code (type_code t) ≡ t
unfolding type_of_code
type-of-code BuiltinTypes.U8 = refl
type-of-code BuiltinTypes.U16 = refl
type-of-code BuiltinTypes.U32 = refl
type-of-code BuiltinTypes.U64 = refl
type-of-code BuiltinTypes.ByteSlice = refl
type-of-code BuiltinTypes.Bool = refl

-- so two types have two codes
pub code_one : (t u : BuiltinTypes) → type_code t ≡ type_code u → t ≡ u
code_one t u e = sym (type-of-code t) ∙ ap type_of_code e ∙ type-of-code u

pub same-type : (t u : BuiltinTypes) → same_type t u ≡ true → t ≡ u
same-type t u e = code_one t u (eqb-true (type_code t) (type_code u) e)

pub other-type : (t u : BuiltinTypes) → same_type t u ≡ false → t ≡ u → ⊥
other-type t u e q = eqb-false (type_code t) (type_code u) e (ap type_code q)

pub same-is : (t u : BuiltinTypes) → (same_type t u ≡ true) ↔ (t ≡ u)
same-is t u = (same-type t u, λ e. eq-eqb (type_code t) (type_code u) (ap type_code e))

pub slice-holds-is : (t : BuiltinTypes) → (is_slice t ≡ true) ↔ (t ≡ BuiltinTypes.ByteSlice)
slice-holds-is t = same-is t BuiltinTypes.ByteSlice

pub slice_is : (t : BuiltinTypes) → (is_slice t ≡ false) ↔ (t ≡ BuiltinTypes.ByteSlice → ⊥)
slice_is t = (other-type t BuiltinTypes.ByteSlice, λ h. (fails-is (is_slice t)).1 (λ e. h (same-type t BuiltinTypes.ByteSlice e)))

-- ---- names

-- a name read back is its type
pub name-type : (t : BuiltinTypes) → type_from (type_name t) ≡ gives t
unfolding type_from same
name-type BuiltinTypes.U8 = refl
name-type BuiltinTypes.U16 = refl
name-type BuiltinTypes.U32 = refl
name-type BuiltinTypes.U64 = refl
name-type BuiltinTypes.ByteSlice = refl
name-type BuiltinTypes.Bool = refl

module _ (name : List ℕ) where
  -- so a test that holds settles the type; where none holds, the name is type 1
  pub named : (t : BuiltinTypes) → same name (type_name t) ≡ true → type_from name ≡ gives t
  named t e = ap type_from (same-equal name (type_name t) e) ∙ name-type t

  pub unnamed : same name (type_name BuiltinTypes.U8) ≡ false → same name (type_name BuiltinTypes.U16) ≡ false
      → same name (type_name BuiltinTypes.U32) ≡ false → same name (type_name BuiltinTypes.U64) ≡ false
      → same name (type_name BuiltinTypes.ByteSlice) ≡ false → same name (type_name BuiltinTypes.Bool) ≡ false → type_from name ≡ refused Group.Type 1 0
  unfolding type_from
  unnamed a b c d e f = rw (a, b, c, d, e, f)

  -- one of the tests: its type is asked for, or the next test answers
  tried : (u t : BuiltinTypes) {rest : Answer BuiltinTypes} → (rest ≡ gives t → name ≡ type_name t)
      → cond (same name (type_name u)) (gives u) rest ≡ gives t → name ≡ type_name t
  tried u t {rest} next = tested (same name (type_name u)) refl
    where
      tested : (test : Bool) → same name (type_name u) ≡ test → cond test (gives u) rest ≡ gives t → name ≡ type_name t
      tested true e g = let asked : u ≡ t = cc in same-equal name (type_name u) e ∙ ap type_name asked
      tested false e g = next g

  -- the name that gives a type is its name
  pub type-name : (t : BuiltinTypes) → type_from name ≡ gives t → name ≡ type_name t
  unfolding type_from
  type-name t =
      tried BuiltinTypes.U8 t (tried BuiltinTypes.U16 t (tried BuiltinTypes.U32 t (tried BuiltinTypes.U64 t
      (tried BuiltinTypes.ByteSlice t (tried BuiltinTypes.Bool t (λ g. cc))))))
