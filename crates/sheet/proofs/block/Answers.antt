-- `block` meets its contract: by whether there is such a block. Assumes nothing.
use mathlib.Core.Path.{◌≡◌}
use mathlib.Core.List.{List, [], ◌∷◌}
use Prim.Native.Nat.{ℕ, zero, suc, ◌+◌, ◌*◌, ◌/◌, ◌<◌}
use native.Mathlib.Nat.{zero-add, suc-add, add-sub_cancel_left}
use native.Mathlib.Omega.{arith}
use lib.ListN.{length, take, drop}
use lib.Seq.{slice}
use borrow.Author.Tests.{lt-ltb, le-ltb}
use Rattle.blocks.specs.Layout.{block_size}
use Rattle.sheet.specs.Blocks.{block_at}
use Rattle.sheet.proofs.block.Goals as goal

part : (f n : ℕ) (s : List ℕ) → take n (drop f s) ≡ slice f (f + n) s
part zero n s = rw zero-add
part (suc f) zero [] = rw suc-add
part (suc f) (suc n) [] = rw suc-add
part (suc f) n (x ∷ s) = rw suc-add (part f n s)

pub returns-then-i-s : goal.returns-then-i-s
unfolding block_at
returns-then-i-s c =
    let a = c.args in
    let there : a.i < length a.s.now / block_size = omega arith in
    rw (lt-ltb _ _ there, add-sub_cancel_left) (part (block_size * a.i) block_size a.s.now)

pub returns-else-i-s : goal.returns-else-i-s
returns-else-i-s c = unfold block_at in rw (le-ltb _ _ c.if-i-s.false)
