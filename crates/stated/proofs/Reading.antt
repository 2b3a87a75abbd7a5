-- How wide parts are, when a part has room for what it writes, and what it means that bytes from an offset on read as parts. Assumes nothing.
use mathlib.Core.Path.{◌≡◌}
use mathlib.Core.Bool.{true}
use mathlib.Core.List.{List, [], ◌∷◌}
use Prim.Native.Nat.{ℕ, ◌+◌, ◌^◌, ◌≤◌, ◌<◌}
use lib.ListN.{length}
use lib.Seq.{slice}
use Rattle.octets.specs.Octets.{AreBytes, byte, be, all_in, is_zero}
use Rattle.stated.specs.Parts.{Part, one_byte, big_endian, padded}

abbrev pub part_width : Part → ℕ
part_width (one_byte n) = 1
part_width (big_endian w n) = w
part_width (padded w l) = w

abbrev pub Fits : Part → Type 0
Fits (one_byte n) = n < 256
Fits (big_endian w n) = n < 256 ^ w
Fits (padded w l) = (length l ≤ w) × AreBytes l

abbrev pub ReadsAs : List ℕ → ℕ → Part → Type 0
ReadsAs b at (one_byte n) = byte b at ≡ n
ReadsAs b at (big_endian w n) = be b at w ≡ n
ReadsAs b at (padded w l) = (slice at (at + length l) b ≡ l) × (all_in is_zero b (at + length l) (at + w) ≡ true)

-- ---- parts, one after the other

abbrev pub parts_width : List Part → ℕ
parts_width [] = 0
parts_width (p ∷ ps) = part_width p + parts_width ps

abbrev pub Fit : List Part → Type 0
Fit [] = Unit {0}
Fit (p ∷ ps) = Fits p × Fit ps

abbrev pub Reads : List ℕ → ℕ → List Part → Type 0
Reads b at [] = Unit {0}
Reads b at (p ∷ ps) = ReadsAs b at p × Reads b (at + part_width p) ps
