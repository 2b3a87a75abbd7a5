-- Ranges of numbers: which numbers lie in one, its end cut at a largest number, emptiness, what two have in common, the first and the last number.
-- Numbers are those of 64 bits. Assumes nothing.
use Rattle.std.specs.Prelude.{Bool, true, false, cond, not, ◌&&◌, ◌||◌, ℕ, ◌+◌, ◌-◌, ◌^◌, leb, ltb, Option, None, Some}
use Rattle.std.specs.declared.ops.Bound.{Bound}
use Rattle.answer.specs.declared.Group.{Group}
use Rattle.answer.specs.Paper.{Answer, gives, refuse, ◌and_then◌}
use Rattle.bounds.specs.declared.CondBounds.{CondBounds}

-- ---- the numbers of a range

-- not before its start
abbrev pub from_start : Bound ℕ → ℕ → Bool
from_start Bound.Unbounded n = true
from_start (Bound.Included a) n = leb a n
from_start (Bound.Excluded a) n = ltb a n

-- not past its end
abbrev pub to_end : Bound ℕ → ℕ → Bool
to_end Bound.Unbounded n = true
to_end (Bound.Included e) n = leb n e
to_end (Bound.Excluded e) n = ltb n e

-- n lies in the range
abbrev pub inside : CondBounds → ℕ → Bool
inside r n = from_start r.start n && to_end r.end n

-- the number that a start begins with
abbrev pub first_of : Bound ℕ → ℕ
first_of Bound.Unbounded = 0
first_of (Bound.Included a) = a
first_of (Bound.Excluded a) = a + 1

-- the range holds no number: not even that one
abbrev pub holds_none : CondBounds → Bool
holds_none r = not (inside r (first_of r.start))

abbrev pub later : ℕ → ℕ → ℕ
later a b = cond (leb a b) b a

-- some number lies in both: if any, then the later of the two that they begin with
abbrev pub meets : CondBounds → CondBounds → Bool
meets r q = let n = later (first_of r.start) (first_of q.start) in inside r n && inside q n

-- ---- the end cut at a largest number: an excluded end may stand one past it

abbrev pub clipped_end : Bound ℕ → ℕ → Bound ℕ
clipped_end Bound.Unbounded most = Bound.Included most
clipped_end (Bound.Included e) most = cond (ltb most e) (Bound.Included most) (Bound.Included e)
clipped_end (Bound.Excluded e) most = cond (ltb (most + 1) e) (Bound.Included most) (Bound.Excluded e)

abbrev pub clipped : CondBounds → ℕ → CondBounds
clipped r most = record { start = r.start; end = clipped_end r.end most }

-- ---- alone. An excluded start is refused, bound 1

abbrev pub is_excluded : Bound ℕ → Bool
is_excluded Bound.Unbounded = false
is_excluded (Bound.Included a) = false
is_excluded (Bound.Excluded a) = true

-- emptiness as the Rust has it: a start of 2^64 - 1 with no end counts as empty, though that number lies in it
abbrev pub empty_from : ℕ → Bound ℕ → Bool
empty_from first Bound.Unbounded = leb (2 ^ 64 - 1) first
empty_from first (Bound.Included e) = ltb e first
empty_from first (Bound.Excluded e) = leb e first

unfoldable pub is_empty : CondBounds → Answer Bool
is_empty r = refuse (is_excluded r.start) Group.Bound 1 0 and_then gives (empty_from (first_of r.start) r.end)

-- of two starts the later one; an excluded one was refused
abbrev pub starts_later : Bound ℕ → Bound ℕ → Bool
starts_later Bound.Unbounded q = false
starts_later (Bound.Included a) q = from_start q a
starts_later (Bound.Excluded a) q = true

-- n is at most the number of an end, of either kind
abbrev pub number_up_to : ℕ → Bound ℕ → Bool
number_up_to n Bound.Unbounded = true
number_up_to n (Bound.Included e) = leb n e
number_up_to n (Bound.Excluded e) = leb n e

-- of two ends the earlier one: of an included i and an excluded e the former where i < e
abbrev pub ends_earlier : Bound ℕ → Bound ℕ → Bool
ends_earlier Bound.Unbounded q = false
ends_earlier (Bound.Included e) q = to_end q e
ends_earlier (Bound.Excluded e) q = number_up_to e q

abbrev pub common : CondBounds → CondBounds → CondBounds
common r q =
    record {
      start = cond (starts_later r.start q.start) r.start q.start;
      end = cond (ends_earlier r.end q.end) r.end q.end;
    }

unfoldable pub intersection : CondBounds → CondBounds → Answer CondBounds
intersection r q = refuse (is_excluded r.start || is_excluded q.start) Group.Bound 1 0 and_then gives (common r q)

-- ---- the first and the last number of 64 bits in a range, where it holds one

abbrev pub last_of : Bound ℕ → ℕ
last_of Bound.Unbounded = 2 ^ 64 - 1
last_of (Bound.Included e) = e
last_of (Bound.Excluded e) = e - 1

abbrev pub first_last_from : ℕ → Bound ℕ → Option (ℕ × ℕ)
first_last_from first end = cond (ltb first (2 ^ 64) && to_end end first) (Some (first, last_of end)) None

abbrev pub first_last : CondBounds → Option (ℕ × ℕ)
first_last r = first_last_from (first_of r.start) r.end
