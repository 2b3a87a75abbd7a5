-- Step 5: the conditions of a sheet, entry by entry; an entry is a C block. Assumes nothing.
use Rattle.std.specs.Prelude.{Bool, cond, ◌&&◌, List, ℕ, ltb}
use Rattle.std.specs.Prelude.{Option, None, Some}
use Rattle.answer.specs.declared.Group.{Group}
use Rattle.answer.specs.Paper.{Check, accepted, refused, refuse, ◌and_then◌, first}
use Rattle.answer.specs.Walk.{first_where, is_some}
use Rattle.octets.specs.Octets.{same}
use Rattle.blocks.specs.Layout.{kind_of, is_c, range_count}
use Rattle.sheet.specs.Blocks.{block_count, block_at, cond_count}
use Rattle.types.specs.Types.{is_slice}
use Rattle.field.specs.declared.Field.{Field}
use Rattle.field_blocks.specs.Step.{field_at}
use Rattle.header.specs.Names.{name_at, field_named}
use Rattle.bounds.specs.Bounds.{holds_none, meets, first_last}
use Rattle.cond.specs.Ranges.{largest_of, clipped_in}

-- ---- one entry

-- cond 6: a range that meets an earlier one of its entry
abbrev pub meets_earlier : List ℕ → ℕ → ℕ → Bool
meets_earlier b most k = is_some (first_where (λ j. meets (clipped_in b most j) (clipped_in b most k)) k)

-- of range k, after clipping: cond 4, empty; cond 6
abbrev pub range_fault : List ℕ → ℕ → ℕ → ℕ → Check
range_fault b most i k = refuse (holds_none (clipped_in b most k)) Group.Cond 4 i and_then refuse (meets_earlier b most k) Group.Cond 6 i

abbrev pub ranges_check : List ℕ → ℕ → ℕ → Check
ranges_check b most i = first (range_fault b most i) (range_count b)

-- cond 7: a field that an entry before lists, and so by the same name
abbrev pub is_entry : List ℕ → Bool
is_entry b = is_c (kind_of b)

abbrev pub listed_before : List ℕ → ℕ → Bool
listed_before s i = is_some (first_where (λ j. is_entry (block_at s j) && same (name_at s j) (name_at s i)) i)

-- with this field: cond 2, a byte slice; then the ranges; then cond 7
unfoldable pub cond_fault : List ℕ → ℕ → Field → Check
cond_fault s i f =
    refuse (is_slice f.repr) Group.Cond 2 i
    and_then ranges_check (block_at s i) (largest_of f) i
    and_then refuse (listed_before s i) Group.Cond 7 i

-- cond 1: no such field
abbrev pub named_fault : List ℕ → ℕ → Option ℕ → Check
named_fault s i (Some k) = cond_fault s i (field_at s k)
named_fault s i None = refused Group.Cond 1 i

abbrev pub entry_fault : List ℕ → ℕ → Check
entry_fault s i = cond (is_entry (block_at s i)) (named_fault s i (field_named s (name_at s i))) accepted

-- ---- entry after entry; then cond 8, with the block count as its place: over 8 entries

unfoldable pub cond_check : List ℕ → Check
cond_check s = first (entry_fault s) (block_count s) and_then refuse (ltb 8 (cond_count s)) Group.Cond 8 (block_count s)

-- ---- the first and the last number of range k of the entry in block i, where there is such an entry, field and range

abbrev pub numbers_in : List ℕ → Option ℕ → List ℕ → ℕ → Option (ℕ × ℕ)
numbers_in s (Some j) b k = first_last (clipped_in b (largest_of (field_at s j)) k)
numbers_in s None b k = None

unfoldable pub range_numbers : List ℕ → ℕ → ℕ → Option (ℕ × ℕ)
range_numbers s i k =
    let b = block_at s i in
    cond (is_entry b && ltb k (range_count b)) (numbers_in s (field_named s (name_at s i)) b k) None
