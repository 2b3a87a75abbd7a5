-- The check of a block, by RFC 1071. Assumes nothing.
use Rattle.std.specs.Prelude.{Bool, ◌&&◌, List, ℕ, eqb, length}
use Rattle.blocks.specs.Layout.{block_size}
use Rattle.blocks.specs.Ones.{words, ones_add, ones_from, ones_sum}

-- as many bytes as a block has, and the sum of their words is 65,535
unfoldable pub check_holds : List ℕ → Bool
unfolding words ones_add ones_from
check_holds b = eqb (length b) block_size && eqb (ones_sum (words b)) 65535
