-- Bytes as one concatenation of parts, each with its width: a byte, a big-endian number, bytes with zeros after them. Assumes nothing.
use Rattle.std.specs.Prelude.{List, [], ◌∷◌, ◌++◌, ℕ, zero, suc, ◌-◌, ◌/◌, ◌%◌, length, replicate}

pub data Part : Type 0 where
  one_byte : ℕ → Part
  big_endian : (width n : ℕ) → Part
  padded : (width : ℕ) → List ℕ → Part

-- a number in so many bytes, the highest first
unfoldable pub number_bytes : ℕ → ℕ → List ℕ
number_bytes zero n = []
number_bytes (suc w) n = number_bytes w (n / 256) ++ (n % 256 ∷ [])

abbrev pub part_bytes : Part → List ℕ
part_bytes (one_byte n) = n ∷ []
part_bytes (big_endian w n) = number_bytes w n
part_bytes (padded w l) = l ++ replicate (w - length l) 0

-- parts, one after the other
abbrev pub written : List Part → List ℕ
written [] = []
written (p ∷ ps) = part_bytes p ++ written ps

-- rows of parts, one for each element of a list
module _ {A : Type 0} (row : A → List Part) where
  unfoldable pub rows : List A → List ℕ
  rows [] = []
  rows (r ∷ rs) = written (row r) ++ rows rs
