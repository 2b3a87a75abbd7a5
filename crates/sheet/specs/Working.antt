-- How the program carries counts of blocks from block to block: its own working, which contracts of private functions cite. No statement rests on it.
-- Assumes nothing.
use Rattle.std.specs.Prelude.{Bool, cond, not, ◌&&◌, ◌||◌, ℕ, ◌+◌, leb, ltb}
use Rattle.blocks.specs.Layout.{is_f, is_l, is_c}
use Rattle.sheet.specs.declared.Counts.{Counts}

-- with one block more, of this kind
abbrev pub counted : Counts → ℕ → Counts
counted c kind =
    record { fields = c.fields + cond (is_f kind) 1 0; lengths = c.lengths + cond (is_l kind) 1 0; conds = c.conds + cond (is_c kind) 1 0 }

-- sheet 3 and 4 of a kind, after so many blocks of each
abbrev pub misplaced_after : Counts → ℕ → Bool
misplaced_after before kind =
    not (is_f kind || is_l kind || is_c kind)
    || (is_f kind && (ltb 0 before.lengths || ltb 0 before.conds))
    || (is_l kind && ltb 0 before.conds)

abbrev pub too_many_after : Counts → ℕ → Bool
too_many_after before kind = (is_f kind && leb 64 before.fields) || (is_c kind && leb 32 before.conds)
