-- Step 1: what is said of any bytes as a sheet. Assumes nothing.
use Rattle.std.specs.Prelude.{Bool, not, ◌&&◌, ◌||◌, List, ℕ, ◌%◌, leb, ltb, eqb, length}
use Rattle.answer.specs.declared.Group.{Group}
use Rattle.answer.specs.Paper.{Check, refuse, ◌and_then◌, first}
use Rattle.answer.specs.Walk.{is_some}
use Rattle.blocks.specs.Layout.{block_size, is_f, is_l, is_c, stated_slot, layout_holds}
use Rattle.blocks.specs.Check.{check_holds}
use Rattle.sheet.specs.Blocks.{block_count, block_at, kind_at, count, slot_block}

-- sheet 1: no multiple of a block's bytes, or over 99 blocks
abbrev pub wrong_length : List ℕ → Bool
wrong_length s = not (eqb (length s % block_size) 0) || ltb 99 (block_count s)

-- sheet 3: block i has an unknown kind; or is an F after an L or a C, or an L after a C
abbrev pub misplaced : List ℕ → ℕ → Bool
misplaced s i =
    not (is_f (kind_at s i) || is_l (kind_at s i) || is_c (kind_at s i))
    || (is_f (kind_at s i) && (ltb 0 (count is_l s i) || ltb 0 (count is_c s i)))
    || (is_l (kind_at s i) && ltb 0 (count is_c s i))

-- sheet 4: it is a 65th F or a 33rd C
abbrev pub too_many : List ℕ → ℕ → Bool
too_many s i = (is_f (kind_at s i) && leb 64 (count is_f s i)) || (is_c (kind_at s i) && leb 32 (count is_c s i))

-- sheet 6: it is an L whose slot an earlier block gives
abbrev pub slot_before : List ℕ → ℕ → Bool
slot_before s i = is_l (kind_at s i) && is_some (slot_block s (stated_slot (block_at s i)) i)

-- sheet 2 to 6 of block i, in this order
unfoldable pub block_fault : List ℕ → ℕ → Check
block_fault s i =
    refuse (not (check_holds (block_at s i))) Group.Sheet 2 i
    and_then refuse (misplaced s i) Group.Sheet 3 i
    and_then refuse (too_many s i) Group.Sheet 4 i
    and_then refuse (not (layout_holds (block_at s i))) Group.Sheet 5 i
    and_then refuse (slot_before s i) Group.Sheet 6 i

-- sheet 1, then block after block
unfoldable pub sheet_check : List ℕ → Check
sheet_check s = refuse (wrong_length s) Group.Sheet 1 0 and_then first (block_fault s) (block_count s)
