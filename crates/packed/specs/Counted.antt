-- A tally with one answer more, and what is printed of a tally. Assumes nothing.
use Rattle.std.specs.Prelude.{ℕ, ◌+◌, ◌%◌, ◌^◌, Bool, true, false, cond, List, [], ◌∷◌, ◌++◌, ◌==◌}
use Rattle.octets.specs.Ascii.{ascii}
use Rattle.text.specs.Text.{decimal}
use Rattle.packed.specs.declared.tally.Tally.{Tally}

-- all answers before the first wrong one are right, so that their count is its number
abbrev pub counted : Tally → Bool → Tally
counted t true = record { right = (t.right + 1) % 2 ^ 64; wrong = t.wrong; first = t.first }
counted t false = record { right = t.right; wrong = (t.wrong + 1) % 2 ^ 64; first = cond (t.wrong == 0) t.right t.first }

-- the end of the line that counts: RIGHT right, WRONG wrong
unfoldable pub counts_text : Tally → List ℕ
counts_text t = decimal t.right ++ (ascii " right, " ++ (decimal t.wrong ++ (ascii " wrong" ++ (10 ∷ []))))

-- a further line: FIRST is the first that is wrong
unfoldable pub first_text : Tally → List ℕ
first_text t = decimal t.first ++ (ascii " is the first that is wrong" ++ (10 ∷ []))

-- that one only where something is wrong
unfoldable pub tally_text : List ℕ → Tally → List ℕ
tally_text title t = title ++ (counts_text t ++ cond (t.wrong == 0) [] (first_text t))
