-- The lister's text as the boundary hands it out. Assumes nothing.
use Rattle.std.specs.Prelude.{◌≡◌, List, ◌++◌, ℕ, length, take, drop}
use Rattle.listing.specs.Listing.{printed}

-- its front as far as buffer b has room, with the rest of b as it was: the bytes b' after it; and how many bytes the whole text has
pub record ListedFront (s b b' : List ℕ) (r : ℕ) : Type 0 where
  pub bytes : b' ≡ take (length b) (printed s) ++ drop (length (printed s)) b
  pub count : r ≡ length (printed s)
