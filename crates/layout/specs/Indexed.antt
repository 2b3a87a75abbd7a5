-- Fields that are given by their index, as a sheet gives them. Assumes nothing.
use Rattle.std.specs.Prelude.{List, [], ◌∷◌, ℕ, zero, suc, ◌+◌}
use Rattle.layout.specs.Layout.{HeaderField}

-- the list of g i, g (i + 1), .., n of them
unfoldable pub fields_from : (ℕ → HeaderField) → ℕ → ℕ → List HeaderField
fields_from g i zero = []
fields_from g i (suc n) = g i ∷ fields_from g (suc i) n

-- the bits of g 0, g 1, .., g (i - 1) together: where g i starts
unfoldable pub position : (ℕ → HeaderField) → ℕ → ℕ
position g zero = 0
position g (suc i) = position g i + (g i).width
