-- What is answered to a read or a write of a run that has to lie in the first h bytes of a buffer, and the buffer after it. Assumes nothing.
use Rattle.std.specs.Prelude.{◌≡◌, Bool, true, false, cond, ◌&&◌, List, [], ℕ, ◌+◌, ◌*◌, ◌^◌, leb, ltb, length, take, drop, Option, None, Some, Result, Ok, Err}
use Rattle.bits.specs.declared.RunFault.{RunFault}
use Rattle.bits.specs.Bits.{value, touched}
use Rattle.bits.specs.Writes.{put}

-- whether a run is one that can be read or written, or why not
abbrev pub RunCheck : Type 0
RunCheck = Result (Unit {0}) RunFault

-- a write that is not done changes nothing
abbrev pub after_write : RunCheck → List ℕ → List ℕ → List ℕ
after_write (Ok _) b b' = b'
after_write (Err fault) b b' = b

-- ---- numbers

-- a run of w bits from bit s on, in the first h bytes of a buffer of n: it is too wide where it touches more than 8 bytes, outside where it ends past the h
-- bytes; and the buffer is short where it has fewer than those
unfoldable pub fit_of : ℕ → ℕ → ℕ → ℕ → RunCheck
fit_of n h s w = cond (ltb 8 (touched s w)) (Err RunFault.TooWide) (cond (ltb (8 * h) (s + w)) (Err RunFault.Outside) (cond (ltb n h) (Err RunFault.Short) (Ok tt)))

-- the number that the run spells
abbrev pub read_as : RunCheck → ℕ → Result ℕ RunFault
read_as (Ok _) v = Ok v
read_as (Err fault) v = Err fault

unfoldable pub read_number : List ℕ → ℕ → ℕ → ℕ → Result ℕ RunFault
read_number b h s w = read_as (fit_of (length b) h s w) (value b s w)

-- a read at once is one that gives the number, and of a buffer of 8 bytes at least
abbrev pub seen : Result ℕ RunFault → Option ℕ
seen (Ok v) = Some v
seen (Err fault) = None

abbrev pub read_at_once : List ℕ → ℕ → ℕ → ℕ → Option ℕ
read_at_once b h s w = cond (leb 8 (length b)) (seen (read_number b h s w)) None

-- v is too large where it has more than w bits
abbrev pub write_as : RunCheck → ℕ → ℕ → RunCheck
write_as (Ok _) w v = cond (ltb v (2 ^ w)) (Ok tt) (Err RunFault.TooLarge)
write_as (Err fault) w v = Err fault

unfoldable pub write_answer : ℕ → ℕ → ℕ → ℕ → ℕ → RunCheck
write_answer n h s w v = write_as (fit_of n h s w) w v

pub record NumberWritten (b b' : List ℕ) (h s w v : ℕ) (r : RunCheck) : Type 0 where
  pub answer : r ≡ write_answer (length b) h s w v
  pub bytes : b' ≡ after_write r b (put b s w v)

-- a write at once is one that is done, and in a buffer of 8 bytes at least
abbrev pub is_done : RunCheck → Bool
is_done (Ok _) = true
is_done (Err fault) = false

pub record NumberAtOnce (b b' : List ℕ) (h s w v : ℕ) (r : Bool) : Type 0 where
  pub answer : r ≡ (leb 8 (length b) && is_done (write_answer (length b) h s w v))
  pub bytes : b' ≡ cond r (put b s w v) b

-- ---- whole bytes

-- c bytes from byte f on, in the first h bytes of a buffer of n
unfoldable pub bytes_answer : ℕ → ℕ → ℕ → ℕ → RunCheck
bytes_answer n h f c = cond (ltb h (f + c)) (Err RunFault.Outside) (cond (ltb n h) (Err RunFault.Short) (Ok tt))

-- these bytes, and none where they do not lie there
abbrev pub bytes_as : RunCheck → List ℕ → List ℕ
bytes_as (Ok _) l = l
bytes_as (Err fault) l = []

unfoldable pub bytes_at : List ℕ → ℕ → ℕ → ℕ → List ℕ
bytes_at b h f c = bytes_as (bytes_answer (length b) h f c) (take c (drop f b))

-- c bytes from byte f on, whose bits spell v: bytes that are given, or zeros
pub record BytesWritten (b b' : List ℕ) (h f c v : ℕ) (r : RunCheck) : Type 0 where
  pub answer : r ≡ bytes_answer (length b) h f c
  pub bytes : b' ≡ after_write r b (put b (8 * f) (8 * c) v)
