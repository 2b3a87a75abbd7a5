-- The blocks of a sheet: which bytes are block i, how many blocks there are of each kind, and the block of a length slot. Assumes nothing.
use Rattle.std.specs.Prelude.{Bool, cond, ◌&&◌, List, [], ℕ, zero, suc, ◌+◌, ◌*◌, ◌/◌, ltb, eqb, length}
use Rattle.std.specs.Prelude.{Option}
use Rattle.std.proofs.Math.Seq.{slice}
use Rattle.blocks.specs.Layout.{block_size, kind_of, is_f, is_l, is_c, stated_slot}
use Rattle.sheet.specs.declared.Counts.{Counts}
use Rattle.answer.specs.Walk.{first_where}

-- how many whole blocks
abbrev pub block_count : List ℕ → ℕ
block_count s = length s / block_size

-- block i; past the last whole one there is nothing
unfoldable pub block_at : List ℕ → ℕ → List ℕ
block_at s i = cond (ltb i (block_count s)) (slice (block_size * i) (block_size * i + block_size) s) []

-- ---- kinds

abbrev pub kind_at : List ℕ → ℕ → ℕ
kind_at s i = kind_of (block_at s i)

-- how many of the first n blocks are of a kind
unfoldable pub count : (ℕ → Bool) → List ℕ → ℕ → ℕ
count is_kind s zero = 0
count is_kind s (suc n) = count is_kind s n + cond (is_kind (kind_at s n)) 1 0

-- the same for all three
abbrev pub counts_of : List ℕ → ℕ → Counts
counts_of s n = record { fields = count is_f s n; lengths = count is_l s n; conds = count is_c s n }

-- how many F, L and C blocks a sheet has
abbrev pub field_count : List ℕ → ℕ
field_count s = count is_f s (block_count s)

abbrev pub length_count : List ℕ → ℕ
length_count s = count is_l s (block_count s)

abbrev pub cond_count : List ℕ → ℕ
cond_count s = count is_c s (block_count s)

-- ---- slots

abbrev pub is_slot : ℕ → List ℕ → Bool
is_slot slot b = is_l (kind_of b) && eqb (stated_slot b) slot

-- the first of the first n blocks that gives a slot
abbrev pub slot_block : List ℕ → ℕ → ℕ → Option ℕ
slot_block s slot n = first_where (λ i. is_slot slot (block_at s i)) n
