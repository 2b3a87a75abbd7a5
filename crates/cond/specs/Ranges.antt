-- The ranges of a C block, cut at the largest value of a field. Assumes nothing.
use Rattle.std.specs.Prelude.{cond, List, ℕ, ◌-◌, ◌^◌, eqb}
use Rattle.std.specs.Prelude.{Option, None, Some}
use Rattle.blocks.specs.Layout.{stated_range}
use Rattle.number.specs.Numbers.{max_value}
use Rattle.std.specs.declared.ops.Bound.{Bound}
use Rattle.bounds.specs.declared.CondBounds.{CondBounds}
use Rattle.bounds.specs.Bounds.{clipped}
use Rattle.field.specs.declared.Field.{Field}
use Rattle.field.specs.Sound.{width_of}

-- start kind 0 none, 1 included; end kind 0 none, 1 included, 2 excluded
abbrev pub start_bound : ℕ → ℕ → Bound ℕ
start_bound kind number = cond (eqb kind 0) Bound.Unbounded (Bound.Included number)

abbrev pub end_bound : ℕ → ℕ → Bound ℕ
end_bound kind number = cond (eqb kind 0) Bound.Unbounded (cond (eqb kind 1) (Bound.Included number) (Bound.Excluded number))

-- range k of a C block
unfoldable pub range_in : List ℕ → ℕ → CondBounds
range_in b k = let r = stated_range b k in record { start = start_bound r.opens r.start; end = end_bound r.closes r.end }

-- the largest value of a field. No field that step 2 accepts and that is no byte slice is without one; then the largest number of all stands for it
abbrev pub or_all : Option ℕ → ℕ
or_all (Some most) = most
or_all None = 2 ^ 64 - 1

abbrev pub largest_of : Field → ℕ
largest_of f = or_all (max_value (width_of f))

-- range k with its end cut at a largest value
abbrev pub clipped_in : List ℕ → ℕ → ℕ → CondBounds
clipped_in b most k = clipped (range_in b k) most
