-- Which locators a field can have: those at which a field of some good header stands. Assumes nothing.
use Rattle.std.specs.Prelude.{◌≡◌, Bool, true, false, List, ℕ, ◌*◌, ◌<◌, length}
use Rattle.layout.specs.Layout as layout
use Rattle.layout.specs.Layout.{HeaderField, field, bits, Good}
use Rattle.locator.specs.declared.Held.{Held}
use Rattle.locator.specs.declared.Locator.{Locator}
use Rattle.locator.specs.Locator.{locator_header, first_bit, locator_width}

-- what a field holds: bytes, or a number with its default and whether it is fixed to that
abbrev pub held_if : Bool → HeaderField → Held
held_if true f = Held.Bytes
held_if false f = Held.Number f.default f.fixed

-- field i of a header stands there: the header is as long, and the field starts there, is as wide and holds the same. The index is no part of where a field
-- stands: it is the place of refusals, and nothing else
pub record StandsAt (p : Locator) (fs : List HeaderField) (i : ℕ) : Type 0 where
  pub there : i < length fs
  pub header : 8 * locator_header p ≡ bits fs
  pub start : first_bit p ≡ layout.start fs i
  pub width : locator_width p ≡ layout.width fs i
  pub held : p.held ≡ held_if (field fs i).is_bytes (field fs i)

-- a field of some good header does
pub record Stands (p : Locator) : Type 0 where
  pub fields : List HeaderField
  pub good : Good fields
  pub index : ℕ
  pub at : StandsAt p fields index
