-- What is owed at every locator. Where a field of a good header stands, reading and writing there is reading and writing that field, so that each sentence is one
-- of the header's theorem; where none can stand, everything is refused and nothing changes. Assumes nothing.
use Rattle.std.specs.Prelude.{Result, Ok, Err}
use mathlib.Core.Path.{◌≡◌, refl, sym, ap, ◌∙◌}
use mathlib.Core.Bool.{Bool, true, false}
use mathlib.Core.List.{List, []}
use mathlib.Core.Logic.{◌↔◌, ◌⊎◌, inl, inr}
use Prim.Native.Nat.{ℕ, suc, ◌+◌, ◌-◌, ◌*◌, ◌/◌, ◌%◌, ◌^◌, ◌≤◌, ◌<◌}
use native.Mathlib.Decide.{dec_lt}
use native.Mathlib.Omega.{arith}
use lib.ListN.{length, take, drop}
use Rattle.answer.specs.declared.Group.{Group}
use Rattle.answer.specs.declared.Refusal.{Refusal}
use Rattle.answer.specs.Paper.{gives, refused, Check, accepted, says}
use Rattle.answer.proofs.Chains.{given, never-given}
use Rattle.octets.specs.Octets.{AreBytes, byte}
use Rattle.bits.specs.Bits.{bit, value}
use Rattle.bits.specs.Writes.{put}
use Rattle.bits.proofs.Writes.{commute}
use Rattle.layout.specs.Layout.{In}
use Rattle.layout.specs.Access.{Value, number, bytes, of_bytes, spells, run_value, write, WriteAccepted, apply, after}
use Rattle.layout.specs.Demand.{Demand}
use Rattle.layout.proofs.Access.{if-passed}
use Rattle.layout.proofs.Demand.{demand}
use Rattle.locator.specs.declared.Locator.{Locator}
use Rattle.locator.specs.Locator.{locator_header, first_bit, locator_width, is_locator, reach_at, write_check_at, read_at, apply_at, part_of}
use Rattle.locator.specs.Stands.{Stands}
use Rattle.locator.proofs.Reached.{Located, located-is, bytes-shape, bytes_whole, reached-is, writable-is, access-1, reach-stands, at-once-written, at-once-none, number-answer-one}
use Rattle.locator.proofs.Stands.{locator-is, located-good}
use Rattle.locator.proofs.AtField.{read_as_lem, write_as_lem, apply-as}
use Rattle.laws.specs.AtLocator.{ReachableAt, AllowedAt, AcceptedAt, OfRun, LocatorDemand, LocatorEntriesOwe}

-- ---- where a field can stand, and where not

stands-is : (p : Locator) → Located p ↔ Stands p
stands-is p = (λ at. (locator-is p).0 ((located-is p).1 at), λ at. (located-is p).0 ((locator-is p).1 at))

stands? : (p : Locator) → Dec (Stands p)
stands? p = of (is_locator p) refl
  where
    of : (t : Bool) → is_locator p ≡ t → Dec (Stands p)
    of true e = yes ((locator-is p).0 e)
    of false e = no (λ at. let is = (locator-is p).1 at in let z : ◌≡◌ {A = ℕ} 0 1 = cc in omega arith)

module _ (p : Locator) where
  -- ---- what is accepted

  reads-are : (n : ℕ) (as_bytes : Bool) → (reach_at p n as_bytes ≡ accepted) ↔ ReachableAt p n as_bytes
  reads-are n as_bytes = simp reached-is (
    λ r. record { stands = (stands-is p).0 r.located; long = r.long; kind = r.kind },
    λ r. record { located = (stands-is p).1 r.stands; long = r.long; kind = r.kind },
  )

  writes_are : (n : ℕ) (v : Value) → (write_check_at p n v ≡ accepted) ↔ AllowedAt p n v
  writes_are n v = simp writable-is (
    λ w. record { reached = (reads-are n (of_bytes v)).0 ((reached-is p n (of_bytes v)).1 w.reached); size = w.size; free = w.free },
    λ a. record { reached = (reached-is p n (of_bytes v)).0 ((reads-are n (of_bytes v)).1 a.reached); size = a.size; free = a.free },
  )

  accepted-reads : (b : List ℕ) (as_bytes : Bool) → ((v : Value) × (read_at p b as_bytes ≡ gives v)) ↔ ReachableAt p (length b) as_bytes
  unfolding read_at
  accepted-reads b as_bytes = (
    λ e. (reads-are (length b) as_bytes).0 (given (reach_at p (length b) as_bytes) e.1).0,
    λ r. (run_value b as_bytes (first_bit p) (locator_width p), rw ((reads-are (length b) as_bytes).1 r)),
  )

  no_field : (Stands p → ⊥) → (n : ℕ) (as_bytes : Bool) → reach_at p n as_bytes ≡ refused Group.Access 1 p.index
  no_field none n as_bytes = access-1 p n as_bytes (λ at. none ((stands-is p).0 at))

  no-field-write : (Stands p → ⊥) → (n : ℕ) (v : Value) → write_check_at p n v ≡ refused Group.Access 1 p.index
  no-field-write none n v = sym (reach-stands p n v (no_field none n (of_bytes v)))

  -- ---- the buffer after a write

  refused-write : (b : List ℕ) (v : Value) → (AcceptedAt p b v → ⊥) → apply_at p b v ≡ b
  unfolding apply_at
  refused-write b v = of (write_check_at p (length b) v)
    where
      of : (x : Check) → (x ≡ accepted → ⊥) → after x (put b (first_bit p) (locator_width p) (spells v)) b ≡ b
      of (gives _) never = absurd (never refl)
      of (refused g n at) never = refl

  -- the one of a field that stands there, or the one before
  by_field : (b : List ℕ) (v : Value) (P : List ℕ → Type 0) → ((at : Stands p) → P (apply at.fields b (write at.index v))) → P b → P (apply_at p b v)
  by_field b v P done unchanged = go (stands? p)
    where
      go : Dec (Stands p) → P (apply_at p b v)
      go (yes at) = rw (apply-as at.good at.at b v) (done at)
      go (no none) = rw (refused-write b v (never-given (no-field-write none (length b) v))) unchanged

  -- ---- a field that stands there: its bits are the run's, and its header the one that is named

  module _ (at : Stands p) where
    owed : Demand at.fields
    owed = demand at.fields at.good

    in-run : (k : ℕ) → In at.fields at.index k → OfRun p k
    in-run k i = record { from = rw at.at.start i.from; to = rw (at.at.start, at.at.width) i.to }

  same_length : (b : List ℕ) (v : Value) → length (apply_at p b v) ≡ length b
  same_length b v = by_field b v (λ (c : List ℕ). length c ≡ length b) (λ at. (owed at).same_length b _) refl

  no_other : (b : List ℕ) (v : Value) (k : ℕ) → (OfRun p k → ⊥) → bit (apply_at p b v) k ≡ bit b k
  no_other b v k outside = by_field b v (λ (c : List ℕ). bit c k ≡ bit b k) (λ at. (owed at).no_other b _ k (λ i. outside (in-run at k i))) refl

  after-header : (b : List ℕ) (v : Value) → AreBytes b → (i : ℕ) → locator_header p ≤ i → byte (apply_at p b v) i ≡ byte b i
  after-header b v h i past = by_field b v (λ (c : List ℕ). byte c i ≡ byte b i) (λ at. (owed at).after-header b _ h i (omega (arith, at.at.header))) refl

  write_same : (b : List ℕ) (v : Value) → AreBytes b → spells v ≡ value b (first_bit p) (locator_width p) → apply_at p b v ≡ b
  write_same b v h same = by_field b v (λ (c : List ℕ). c ≡ b) (λ at. (owed at).write_same b _ h (same ∙ rw (at.at.start, at.at.width))) refl

  -- ---- what is accepted, or read: a field stands there, and what is owed of it is owed here

  write-stands : (b : List ℕ) (v : Value) → AcceptedAt p b v → Stands p
  write-stands b v e = ((writes_are (length b) v).0 e).reached.stands

  read-stands : (b : List ℕ) (as_bytes : Bool) (v : Value) → read_at p b as_bytes ≡ gives v → Stands p
  read-stands b as_bytes v e = ((accepted-reads b as_bytes).0 (v, e)).stands

  module _ (b : List ℕ) (at : Stands p) where
    left : (v : Value) → apply_at p b v ≡ apply at.fields b (write at.index v)
    left = apply-as at.good at.at b

    passes : (v : Value) → AcceptedAt p b v → WriteAccepted at.fields b (write at.index v)
    passes v = (write_as_lem at.good at.at (length b) v).0

    number-back : (v : ℕ) → AcceptedAt p b (number v) → (j : ℕ) → j < locator_width p → bit (apply_at p b (number v)) (first_bit p + j) ≡ v / 2 ^ (locator_width p - suc j) % 2
    number-back v e j h = rw (left (number v), at.at.start, at.at.width) ((owed at).number-back b at.index v (passes (number v) e) j (rw at.at.width at h))

    bytes_back : (l : List ℕ) → AcceptedAt p b (bytes l) → (j : ℕ) → j < 8 * length l → bit (apply_at p b (bytes l)) (first_bit p + j) ≡ bit l j
    bytes_back l e j h = rw (left (bytes l), at.at.start) ((owed at).bytes_back b at.index l (passes (bytes l) e) j h)

    reads-number : (v : ℕ) → AcceptedAt p b (number v) → read_at p (apply_at p b (number v)) (of_bytes (number v)) ≡ gives (number v)
    reads-number v e = (read_as_lem at.good at.at _ _ _).1 (rw (left (number v)) ((owed at).reads-number b at.index v (passes (number v) e)))

    reads_bytes : (l : List ℕ) → AreBytes l → AcceptedAt p b (bytes l) → read_at p (apply_at p b (bytes l)) (of_bytes (bytes l)) ≡ gives (bytes l)
    reads_bytes l h e = (read_as_lem at.good at.at _ _ _).1 (rw (left (bytes l)) ((owed at).reads_bytes b at.index l h (passes (bytes l) e)))

    number_read : (v : ℕ) → read_at p b false ≡ gives (number v) → (j : ℕ) → j < locator_width p → bit b (first_bit p + j) ≡ v / 2 ^ (locator_width p - suc j) % 2
    number_read v e j h = rw (at.at.start, at.at.width) ((owed at).number_read b at.index v ((read_as_lem at.good at.at b false (number v)).0 e) j (rw at.at.width at h))

    bytes_read : (l : List ℕ) → read_at p b true ≡ gives (bytes l) → (8 * length l ≡ locator_width p) × ((j : ℕ) → j < locator_width p → bit l j ≡ bit b (first_bit p + j))
    bytes_read l e = rw (at.at.start, at.at.width) ((owed at).bytes_read b at.index l ((read_as_lem at.good at.at b true (bytes l)).0 e))

    write_read : (as_bytes : Bool) (v : Value) → AreBytes b → read_at p b as_bytes ≡ gives v → apply_at p b v ≡ b
    write_read as_bytes v h e = left v ∙ (owed at).write_read b as_bytes at.index v h ((read_as_lem at.good at.at b as_bytes v).0 e)

    second : (v u : Value) → AcceptedAt p b v → AcceptedAt p b u → apply_at p (apply_at p b v) u ≡ apply_at p b u
    second v u e f = rw (apply-as at.good at.at (apply_at p b v) u, left v, left u)
        ((owed at).second b (write at.index v) (write at.index u) refl (passes v e) (passes u f))

-- ---- two locators

-- a run of a field has a bit
has-bit : (p : Locator) → Stands p → 1 ≤ locator_width p
has-bit p at = (located-good p ((stands-is p).1 at)).some

-- so of two with no bit in common one ends before the other begins
apart : (p q : Locator) → Stands p → Stands q → ((k : ℕ) → OfRun p k → OfRun q k → ⊥)
    → (first_bit p + locator_width p ≤ first_bit q) ⊎ (first_bit q + locator_width q ≤ first_bit p)
apart p q sp sq none = go (dec_lt (first_bit q) (first_bit p + locator_width p)) (dec_lt (first_bit p) (first_bit q + locator_width q)) (dec_lt (first_bit p) (first_bit q))
  where
    go : Dec (first_bit q < first_bit p + locator_width p) → Dec (first_bit p < first_bit q + locator_width q) → Dec (first_bit p < first_bit q)
        → (first_bit p + locator_width p ≤ first_bit q) ⊎ (first_bit q + locator_width q ≤ first_bit p)
    go (no a) _ _ = inl (omega arith)
    go (yes a) (no b) _ = inr (omega arith)
    go (yes a) (yes b) (yes c) = absurd (none (first_bit q) (record { from = omega arith; to = a }) (record { from = omega arith; to = omega (arith, has-bit q sq) }))
    go (yes a) (yes b) (no c) = absurd (none (first_bit p) (record { from = omega arith; to = omega (arith, has-bit p sp) }) (record { from = omega arith; to = b }))

either_order : (p q : Locator) → ((k : ℕ) → OfRun p k → OfRun q k → ⊥) → (b : List ℕ) (v u : Value) → apply_at q (apply_at p b v) u ≡ apply_at p (apply_at q b u) v
unfolding apply_at
either_order p q none b v u =
    rw (same_length p b v, same_length q b u)
    (if-passed (λ c. put c (first_bit p) (locator_width p) (spells v)) (λ c. put c (first_bit q) (locator_width q) (spells u)) b (write_check_at p (length b) v) (write_check_at q (length b) u)
    (λ e f. commute b _ _ _ _ _ _ (apart p q (write-stands p b v e) (write-stands q b u f) none)))

-- ---- sentence by sentence, as in `specs/AtLocator.antt`

pub locator-owed : (p : Locator) → LocatorDemand p
locator-owed p = record {
  accepted-writes = λ b v. writes_are p (length b) v;
  accepted-reads = accepted-reads p;
  no_field = no_field p;
  no-field-write = no-field-write p;
  number-back = λ b v e. number-back p b (write-stands p b (number v) e) v e;
  bytes_back = λ b l e. bytes_back p b (write-stands p b (bytes l) e) l e;
  reads-number = λ b v e. reads-number p b (write-stands p b (number v) e) v e;
  reads_bytes = λ b l h e. reads_bytes p b (write-stands p b (bytes l) e) l h e;
  no_other = no_other p;
  after-header = after-header p;
  same_length = same_length p;
  refused-write = refused-write p;
  number_read = λ b v e. number_read p b (read-stands p b false (number v) e) v e;
  bytes_read = λ b l e. bytes_read p b (read-stands p b true (bytes l) e) l e;
  write_same = write_same p;
  write_read = λ b as_bytes v h e. write_read p b (read-stands p b as_bytes v e) as_bytes v h e;
  second = λ b v u e f. second p b (write-stands p b v e) v u e f;
  either_order = either_order p;
}

-- ---- from the contracts alone

-- the bytes of a run are two at least, and none where they are not reached
some_bytes : (p : Locator) (b : List ℕ) → reach_at p (length b) true ≡ accepted → 2 ≤ length (part_of (read_at p b true))
unfolding read_at
some_bytes p b e =
    let at = (reached-is p (length b) true).0 e in
    let l = take (locator_width p / 8) (drop (first_bit p / 8) b) in
    let said : read_at p b true ≡ gives (bytes l) = rw e in
    let size = ((locator-owed p).bytes_read b l said).0 in
    let whole = bytes_whole p.held (first_bit p) (locator_width p) ((bytes-shape p.held (first_bit p) (locator_width p) (sym at.kind)).0 at.located.shape) in
    rw e (omega (arith, size, whole))

no_bytes : (p : Locator) (b : List ℕ) {g : Group} {n k : ℕ} → reach_at p (length b) true ≡ refused g n k → part_of (read_at p b true) ≡ []
unfolding read_at
no_bytes p b e = rw e

pub locator-entries-owed : (p : Locator) → LocatorEntriesOwe p
locator-entries-owed p = record {
  number-comes-back = λ b c v n t e. number-answer-one n (Ok v) (e ∙ ap (λ (x : List ℕ). read_at p x false) t.bytes ∙ (locator-owed p).reads-number b v (sym t.answer));
  bytes-come-back = λ b c l part h t e. e ∙ ap (λ (x : List ℕ). part_of (read_at p x true)) t.bytes ∙ ap part_of ((locator-owed p).reads_bytes b l h (sym t.answer));
  refused-writing = λ b c v r t. t.bytes ∙ refused-write p b v (never-given (sym t.answer));
  write-at-once = λ b c v w. at-once-written w;
  not-at-once = λ b c v w. at-once-none w;
  empty-part = empty-part;
}
  where
    empty-part : (b l : List ℕ) (r : Result (Unit {0}) Refusal) → l ≡ part_of (read_at p b true) → says r ≡ reach_at p (length b) true → (l ≡ []) ↔ ((reason : Refusal) × (r ≡ Err reason))
    empty-part b l (Ok tt) e may = (λ none. absurd (omega (arith, some_bytes p b (sym may), ap length (sym e ∙ none))), λ q. cc)
    empty-part b l (Err reason) e may = (λ _. (reason, refl), λ _. e ∙ no_bytes p b (sym may))
