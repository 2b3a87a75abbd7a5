-- Reads and writes at the locator of a field. A locator is a value that anyone can make up, so access 1 to 5 are stated here of any; `access` shows
-- that at the locators of an accepted sheet they are those of its fields. Assumes nothing.
use Rattle.std.specs.Prelude.{◌≡◌, Bool, true, false, cond, not, ◌&&◌, List, [], ℕ, ◌+◌, ◌*◌, ◌%◌, ◌^◌, leb, ltb, eqb, length, Option, None, Some, Result, Ok, Err}
use Rattle.std.specs.Bool.{beq}
use Rattle.answer.specs.declared.Refusal.{Refusal}
use Rattle.answer.specs.Paper.{Answer, gives, refused, Check, is_given, refusal_says, says, ◌and_then◌}
use Rattle.number.specs.Numbers.{max_bytes}
use Rattle.bits.specs.Bits.{touched}
use Rattle.bits.specs.Positions.{global_of}
use Rattle.bits.specs.Writes.{put}
use Rattle.layout.specs.Layout.{HeaderField}
use Rattle.layout.specs.Access.{Value, number, bytes, of_bytes, spells, reach_by, suit, run_value, after}
use Rattle.locator.specs.declared.Held.{Held}
use Rattle.locator.specs.declared.Locator.{Locator}

-- ---- a locator: its header's bytes, its first bit and its width in bits, and what it holds

abbrev pub locator_header : Locator → ℕ
locator_header p = p.header.0

abbrev pub first_bit : Locator → ℕ
first_bit p = global_of p.run.start

abbrev pub locator_width : Locator → ℕ
locator_width p = p.run.width.0

abbrev pub held_is_bytes : Held → Bool
held_is_bytes (Held.Number default fixed) = false
held_is_bytes Held.Bytes = true

-- a number, with its default within w bits, one at least
abbrev pub is_number_of : Held → ℕ → Bool
is_number_of (Held.Number default fixed) w = leb 1 w && ltb default (2 ^ w)
is_number_of Held.Bytes w = false

-- bytes: two or more whole ones, on a byte boundary
abbrev pub is_bytes_of : Held → ℕ → ℕ → Bool
is_bytes_of (Held.Number default fixed) s w = false
is_bytes_of Held.Bytes s w = (eqb (s % 8) 0 && eqb (w % 8) 0) && leb 16 w

-- a run of w bits from bit s on can hold it; a number touches at most 8 bytes
abbrev pub has_shape : Held → ℕ → ℕ → Bool
has_shape (Held.Number default fixed) s w = is_number_of (Held.Number default fixed) w && leb (touched s w) 8
has_shape Held.Bytes s w = is_bytes_of Held.Bytes s w

-- a field can stand there: the header is not too long, the field ends in it, and has the shape of what it holds. This is so exactly where some good header has a
-- field that stands so: `Stands` says it, and `proofs/Stands: locator-is` shows it
unfoldable pub is_locator : Locator → Bool
is_locator p =
    (leb (locator_header p) max_bytes && leb (first_bit p + locator_width p) (8 * locator_header p)) && has_shape p.held (first_bit p) (locator_width p)

-- the field there, as a header has it; bytes are never fixed, and so their default is not asked for
abbrev pub held_default : Held → ℕ
held_default (Held.Number default fixed) = default
held_default Held.Bytes = 0

abbrev pub held_fixed : Held → Bool
held_fixed (Held.Number default fixed) = fixed
held_fixed Held.Bytes = false

abbrev pub field_located : Locator → HeaderField
field_located p = record { width = locator_width p; is_bytes = held_is_bytes p.held; default = held_default p.held; fixed = held_fixed p.held }

-- ---- access 1 to 5 at a locator, in a buffer of n bytes; the place of a refusal is the field's index

-- access 1 is that no field can stand there; 2 and 3 are as ever
unfoldable pub reach_at : Locator → ℕ → Bool → Check
reach_at p n as_bytes = reach_by (not (is_locator p)) (ltb n (locator_header p)) (not (beq as_bytes (held_is_bytes p.held))) p.index

-- and so are 4 and 5
unfoldable pub write_check_at : Locator → ℕ → Value → Check
write_check_at p n v = reach_at p n (of_bytes v) and_then suit (field_located p) v p.index

-- ---- what is read, and the buffer after a write

unfoldable pub read_at : Locator → List ℕ → Bool → Answer Value
read_at p b as_bytes = reach_at p (length b) as_bytes and_then gives (run_value b as_bytes (first_bit p) (locator_width p))

-- a read at once gives the number where there is one and the buffer has 8 bytes
abbrev pub seen_of : Answer Value → Option ℕ
seen_of (gives (number v)) = Some v
seen_of (gives (bytes l)) = None
seen_of (refused g n at) = None

abbrev pub seen_at : Locator → List ℕ → Option ℕ
seen_at p b = cond (leb 8 (length b)) (seen_of (read_at p b false)) None

unfoldable pub apply_at : Locator → List ℕ → Value → List ℕ
apply_at p b v = after (write_check_at p (length b) v) (put b (first_bit p) (locator_width p) (spells v)) b

pub record WrittenAt (p : Locator) (b b' : List ℕ) (v : Value) (r : Result (Unit {0}) Refusal) : Type 0 where
  pub answer : says r ≡ write_check_at p (length b) v
  pub bytes : b' ≡ apply_at p b v

-- a write at once is done where the write is accepted and the buffer has 8 bytes
pub record WrittenAtOnce (p : Locator) (b b' : List ℕ) (v : ℕ) (r : Bool) : Type 0 where
  pub answer : r ≡ (leb 8 (length b) && is_given (write_check_at p (length b) (number v)))
  pub bytes : b' ≡ cond r (apply_at p b (number v)) b

-- ---- what the program's answers say

abbrev pub number_answer_says : Result ℕ Refusal → Answer Value
number_answer_says (Ok v) = gives (number v)
number_answer_says (Err r) = refusal_says r

-- a read of bytes gives them, and an empty part where it is refused
abbrev pub part_of : Answer Value → List ℕ
part_of (gives (bytes l)) = l
part_of (gives (number v)) = []
part_of (refused g n at) = []
