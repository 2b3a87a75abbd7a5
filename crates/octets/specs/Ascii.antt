-- Quoted texts as bytes. Assumes nothing.
use Rattle.std.specs.Prelude.{List, [], ◌∷◌, ℕ}
use Prim.Native.Char.{code}
use Prim.Native.String.{String}
use Prim.Native.String as quoted

-- a quoted text: the codes of its characters, which for ASCII are its bytes
abbrev pub ascii : String → List ℕ
ascii quoted.[] = []
ascii (quoted.◌∷◌ c t) = code c ∷ ascii t
