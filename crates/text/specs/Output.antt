-- What writing a text does to a buffer and a cursor. Assumes nothing.
use Rattle.std.specs.Prelude.{◌≡◌, Option, Some, None, cond, List, [], ◌∷◌, ℕ, ◌+◌, min, ◌≤◌, ltb, length, set, take}

-- the bytes of a buffer, and where the next one goes, or that the buffer is full
abbrev pub Output : Type 0
Output = List ℕ × Option ℕ

-- one byte: at the buffer's end, and from then on, none is written
unfoldable pub byte_to : ℕ → List ℕ → Option ℕ → Output
byte_to x b (Some at) = cond (ltb at (length b)) (set b at x, Some (at + 1)) (b, None)
byte_to x b None = (b, None)

-- a text, byte by byte
unfoldable pub emit : List ℕ → Output → Output
unfolding byte_to
emit [] o = o
emit (x ∷ t) o = emit t (byte_to x o.0 o.1)

-- how many bytes of the buffer are before the cursor
abbrev pub filled_to : List ℕ → Option ℕ → ℕ
filled_to b (Some at) = min at (length b)
filled_to b None = length b

-- r is that number. The other two follow, and are what is asked for where the first r bytes of the buffer are lent on.
pub record FilledFront (b : List ℕ) (p : Option ℕ) (r : ℕ) : Type 0 where
  pub count : r ≡ filled_to b p
  pub within : r ≤ length b
  pub part : r ≡ length (take r b)
