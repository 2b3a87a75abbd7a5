-- By which number step 3 tells most names apart: its own working, which contracts of private functions cite. No statement rests on it. Assumes nothing.
use Rattle.std.specs.Prelude.{List, ℕ, ◌+◌, ◌-◌, ◌*◌, ◌/◌, ◌%◌, length}
use Rattle.octets.specs.Octets.{byte, be}

-- a number below 256 by which most names differ; of names that are equal it is the same, and no more is asked of it
unfoldable pub key_of : List ℕ → ℕ
key_of name =
    let last = be name (length name - 2) 2 in
    (37 * (length name % 256) + 5 * byte name 0 + last + last / 16) % 256
