-- What is owed at any locator, made up or not, sentence by sentence: which reads and writes are accepted there, that each write reads back, and that it stays
-- inside its run. It speaks of RFC 791's bits (`bit`) and of what the contracts of `locator` promise: `reach_at`, `read_at`, `write_check_at` and `apply_at`.
-- `proofs/AtLocator.antt` shows it of every locator. Assumes nothing.
use Rattle.std.specs.Prelude.{◌≡◌, Bool, true, false, List, [], ◌↔◌, ℕ, suc, ◌+◌, ◌-◌, ◌*◌, ◌/◌, ◌%◌, ◌^◌, ◌≤◌, ◌<◌, length, Result, Ok, Err}
use Rattle.answer.specs.declared.Group.{Group}
use Rattle.answer.specs.declared.Refusal.{Refusal}
use Rattle.answer.specs.Paper.{gives, refused, accepted, says}
use Rattle.octets.specs.Octets.{AreBytes, byte}
use Rattle.bits.specs.Bits.{bit, value}
use Rattle.layout.specs.Access.{Value, number, bytes, of_bytes, spells, OfSize}
use Rattle.locator.specs.declared.Locator.{Locator}
use Rattle.locator.specs.Locator.{locator_header, first_bit, locator_width, held_is_bytes, held_default, held_fixed, reach_at, write_check_at, read_at, apply_at, WrittenAt, WrittenAtOnce, number_answer_says, part_of}
use Rattle.locator.specs.Stands.{Stands}

-- ---- what the rules allow there, said without the tests

-- a field of some good header stands there; the buffer is as long as that header; what is asked is what is held
pub record ReachableAt (p : Locator) (n : ℕ) (as_bytes : Bool) : Type 0 where
  pub stands : Stands p
  pub long : locator_header p ≤ n
  pub kind : as_bytes ≡ held_is_bytes p.held

-- and the value has the size of the run, and is the default where that is fixed
pub record AllowedAt (p : Locator) (n : ℕ) (v : Value) : Type 0 where
  pub reached : ReachableAt p n (of_bytes v)
  pub size : OfSize v (locator_width p)
  pub free : held_fixed p.held ≡ true → spells v ≡ held_default p.held

-- a write that is accepted in a buffer
abbrev pub AcceptedAt : Locator → List ℕ → Value → Type 0
AcceptedAt p b v = write_check_at p (length b) v ≡ accepted

-- bit k is one of the run
pub record OfRun (p : Locator) (k : ℕ) : Type 0 where
  pub from : first_bit p ≤ k
  pub to : k < first_bit p + locator_width p

pub record LocatorDemand (p : Locator) : Type 0 where
  -- exactly the allowed writes are accepted, and exactly the allowed reads
  pub accepted-writes : (b : List ℕ) (v : Value) → AcceptedAt p b v ↔ AllowedAt p (length b) v
  pub accepted-reads : (b : List ℕ) (as_bytes : Bool) → ((v : Value) × (read_at p b as_bytes ≡ gives v)) ↔ ReachableAt p (length b) as_bytes
  -- where no field can stand, every read and write is access 1, in a buffer of any length
  pub no_field : (Stands p → ⊥) → (n : ℕ) (as_bytes : Bool) → reach_at p n as_bytes ≡ refused Group.Access 1 p.index
  pub no-field-write : (Stands p → ⊥) → (n : ℕ) (v : Value) → write_check_at p n v ≡ refused Group.Access 1 p.index
  -- each write reads back: bit by bit the number's digits, the most significant first, or the bytes' bits
  pub number-back : (b : List ℕ) (v : ℕ) → AcceptedAt p b (number v)
      → (j : ℕ) → j < locator_width p → bit (apply_at p b (number v)) (first_bit p + j) ≡ v / 2 ^ (locator_width p - suc j) % 2
  pub bytes_back : (b l : List ℕ) → AcceptedAt p b (bytes l) → (j : ℕ) → j < 8 * length l → bit (apply_at p b (bytes l)) (first_bit p + j) ≡ bit l j
  -- and by a read, which gives what was written
  pub reads-number : (b : List ℕ) (v : ℕ) → AcceptedAt p b (number v) → read_at p (apply_at p b (number v)) (of_bytes (number v)) ≡ gives (number v)
  pub reads_bytes : (b l : List ℕ) → AreBytes l → AcceptedAt p b (bytes l) → read_at p (apply_at p b (bytes l)) (of_bytes (bytes l)) ≡ gives (bytes l)
  -- no bit outside its run changes
  pub no_other : (b : List ℕ) (v : Value) (k : ℕ) → (OfRun p k → ⊥) → bit (apply_at p b v) k ≡ bit b k
  -- nor a byte after the header that it names, nor how many there are
  pub after-header : (b : List ℕ) (v : Value) → AreBytes b → (i : ℕ) → locator_header p ≤ i → byte (apply_at p b v) i ≡ byte b i
  pub same_length : (b : List ℕ) (v : Value) → length (apply_at p b v) ≡ length b
  -- a refused write changes nothing
  pub refused-write : (b : List ℕ) (v : Value) → (AcceptedAt p b v → ⊥) → apply_at p b v ≡ b
  -- a read gives the run's bits: a number whose digits they are, the most significant first, or as many bytes as they are, bit by bit
  pub number_read : (b : List ℕ) (v : ℕ) → read_at p b false ≡ gives (number v) → (j : ℕ) → j < locator_width p → bit b (first_bit p + j) ≡ v / 2 ^ (locator_width p - suc j) % 2
  pub bytes_read : (b l : List ℕ) → read_at p b true ≡ gives (bytes l)
      → (8 * length l ≡ locator_width p) × ((j : ℕ) → j < locator_width p → bit l j ≡ bit b (first_bit p + j))
  -- writing what the run spells changes nothing, and so neither does writing what was read
  pub write_same : (b : List ℕ) (v : Value) → AreBytes b → spells v ≡ value b (first_bit p) (locator_width p) → apply_at p b v ≡ b
  pub write_read : (b : List ℕ) (as_bytes : Bool) (v : Value) → AreBytes b → read_at p b as_bytes ≡ gives v → apply_at p b v ≡ b
  -- the second of two accepted writes counts
  pub second : (b : List ℕ) (v u : Value) → AcceptedAt p b v → AcceptedAt p b u → apply_at p (apply_at p b v) u ≡ apply_at p b u
  -- and writes at another locator whose run has no bit in common end in the same bytes in either order, accepted or refused
  pub either_order : (q : Locator) → ((k : ℕ) → OfRun p k → OfRun q k → ⊥) → (b : List ℕ) (v u : Value) → apply_at q (apply_at p b v) u ≡ apply_at p (apply_at q b u) v

-- what a caller gets there from the contracts alone: of answers, and of the buffer c that a write leaves of the buffer b, it knows what the contracts say, and
-- nothing else
pub record LocatorEntriesOwe (p : Locator) : Type 0 where
  -- what an accepted write wrote is read again
  pub number-comes-back : (b c : List ℕ) (v : ℕ) (n : Result ℕ Refusal) → WrittenAt p b c (number v) (Ok tt) → number_answer_says n ≡ read_at p c false → n ≡ Ok v
  pub bytes-come-back : (b c l part : List ℕ) → AreBytes l → WrittenAt p b c (bytes l) (Ok tt) → part ≡ part_of (read_at p c true) → part ≡ l
  -- a refused one leaves the buffer as it was
  pub refused-writing : (b c : List ℕ) (v : Value) (r : Refusal) → WrittenAt p b c v (Err r) → c ≡ b
  -- a write at once is a write that is accepted; where it was none, the buffer is as it was
  pub write-at-once : (b c : List ℕ) (v : ℕ) → WrittenAtOnce p b c v true → WrittenAt p b c (number v) (Ok tt)
  pub not-at-once : (b c : List ℕ) (v : ℕ) → WrittenAtOnce p b c v false → c ≡ b
  -- a part is empty exactly where the function beside it refuses
  pub empty-part : (b part : List ℕ) (r : Result (Unit {0}) Refusal) → part ≡ part_of (read_at p b true) → says r ≡ reach_at p (length b) true
      → (part ≡ []) ↔ ((reason : Refusal) × (r ≡ Err reason))
