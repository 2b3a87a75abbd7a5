-- What the tests at a locator let pass, and the contracts by their cases: what the functions on runs answer is what access 1 to 5 say, and where they are
-- not asked the refusal stands and nothing is changed. Then: answers that say the same are the same. Assumes nothing.
use mathlib.Core.Path.{◌≡◌, refl, sym, ap, ◌∙◌}
use mathlib.Core.Bool.{Bool, true, false, cond, not, ◌&&◌, ◌||◌, and-false}
use mathlib.Core.List.{List, []}
use mathlib.Core.Logic.Iff
use mathlib.Core.Logic.{◌↔◌, ⊎_elim}
use Prim.Native.Nat.{ℕ, ◌+◌, ◌*◌, ◌/◌, ◌%◌, ◌^◌, ◌≤◌, ◌<◌}
use native.Mathlib.Omega.{arith}
use lib.Dec.{leb, ltb, eqb}
use lib.ListN.{length, take, drop}
use borrow.Author.Tests.{leb-true, le-leb, ltb-true, ltb-false, lt-ltb, le-ltb, eqb-true, eq-eqb, not-true, not-false}
use Rattle.std.specs.Prelude.{Option, Some, None, Result, Ok, Err}
use Rattle.answer.specs.declared.Group.{Group}
use Rattle.answer.specs.declared.Refusal.{Refusal}
use Rattle.answer.specs.Paper.{Answer, gives, refused, Check, accepted, is_given, says, refuse, ◌and_then◌}
use Rattle.answer.proofs.Chains.{stand as refusal-stands, both_is, refuse-is, and_then-accepted}
use Rattle.answer.proofs.Tests.{clash, same_test, both_hold, neither, one-or-other, fails-is, and_is, leb-is, ltb-is-not, eqb_is, not_is}
use Rattle.answer.proofs.OneToOne.{refusal-one, says-one}
use Rattle.number.specs.Numbers.{max_bytes}
use Rattle.bits.specs.declared.RunFault.{RunFault}
use Rattle.bits.specs.Bits.{value, spelled, touched}
use Rattle.bits.specs.Writes.{put}
use Rattle.bits.specs.Runs.{RunCheck, after_write, read_as, read_number, seen, read_at_once, write_as, write_answer, is_done, NumberWritten, NumberAtOnce, bytes_as, bytes_at, BytesWritten}
use Rattle.bits.proofs.Windows.{by-fit, by_place}
use Rattle.layout.specs.Access.{Value, number, bytes, of_bytes, spells, OfSize, suit, run_value, after}
use Rattle.layout.proofs.Access.{kind-is, fits-is, fixed-is}
use Rattle.locator.specs.declared.Held.{Held}
use Rattle.locator.specs.declared.Locator.{Locator}
use Rattle.locator.specs.Working.{holds_no_number, holds_no_bytes, bars_number, at_field}
use Rattle.locator.specs.Locator.{locator_header, first_bit, locator_width, held_is_bytes, is_number_of, is_bytes_of, has_shape, is_locator, held_default, held_fixed, field_located, reach_at, write_check_at, read_at, seen_of, seen_at, apply_at, WrittenAt, WrittenAtOnce, number_answer_says, part_of}

-- ---- counts of bits held against counts of bytes

-- a run ends in so many bytes where the last that it touches does
pub inside_is : (s w n : ℕ) → leb (s / 8 + touched s w) n ≡ leb (s + w) (8 * n)
inside_is s w n =
    same_test (leb (s / 8 + touched s w) n) (leb (s + w) (8 * n))
    (λ e. le-leb (s + w) (8 * n) (omega (arith, leb-true (s / 8 + touched s w) n e)))
    (λ e. le-leb (s / 8 + touched s w) n (omega (arith, leb-true (s + w) (8 * n) e)))

-- so many bytes are so many bits
pub count-is : (n w : ℕ) → (eqb (w % 8) 0 && eqb (w / 8) n) ≡ eqb (8 * n) w
count-is n w =
    same_test (eqb (w % 8) 0 && eqb (w / 8) n) (eqb (8 * n) w)
    (λ e. let two = both_hold (eqb (w % 8) 0) (eqb (w / 8) n) e in eq-eqb (8 * n) w (omega (arith, eqb-true (w % 8) 0 two.0, eqb-true (w / 8) n two.1)))
    (λ e. let is = eqb-true (8 * n) w e in rw (eq-eqb (w % 8) 0 (omega (arith, is)), eq-eqb (w / 8) n (omega (arith, is))))

-- what is not over the limit is within it
pub within-is : (n most : ℕ) → not (ltb most n) ≡ leb n most
within-is n most =
    same_test (not (ltb most n)) (leb n most)
    (λ e. le-leb n most (ltb-false most n (not-true (ltb most n) e)))
    (λ e. rw (le-ltb most n (leb-true n most e)))

-- ---- where a field can stand

-- what the test asks
pub record Located (p : Locator) : Type 0 where
  pub most : locator_header p ≤ max_bytes
  pub inside : first_bit p + locator_width p ≤ 8 * locator_header p
  pub shape : has_shape p.held (first_bit p) (locator_width p) ≡ true

pub located-is : (p : Locator) → (is_locator p ≡ true) ↔ Located p
unfolding is_locator
located-is p = simp (and_is, leb-is) (λ q. record { most = q.0.0; inside = q.0.1; shape = q.1 }, λ r. ((r.most, r.inside), r.shape))

-- no field has no bits
shape-bits : (h : Held) (s : ℕ) → has_shape h s 0 ≡ true → ⊥
shape-bits (Held.Number default fixed) s e = clash (sym e)
shape-bits Held.Bytes s e = clash (sym (both_hold (eqb (s % 8) 0 && true) false e).1)

pub no_bits : (p : Locator) → locator_width p ≡ 0 → is_locator p ≡ true → ⊥
no_bits p none ok = shape-bits p.held (first_bit p) (rw none at ((located-is p).0 ok).shape)

-- the shape of a number, and of bytes
pub number-shape : (h : Held) (s w : ℕ) → held_is_bytes h ≡ false → (has_shape h s w ≡ true) ↔ ((is_number_of h w ≡ true) × (touched s w ≤ 8))
number-shape (Held.Number default fixed) s w kind = (
  λ e. let two = both_hold (is_number_of (Held.Number default fixed) w) (leb (touched s w) 8) e in (two.0, leb-true (touched s w) 8 two.1),
  λ p. rw (p.0, le-leb (touched s w) 8 p.1),
)
number-shape Held.Bytes s w kind = clash kind

pub bytes-shape : (h : Held) (s w : ℕ) → held_is_bytes h ≡ true → (has_shape h s w ≡ true) ↔ (is_bytes_of h s w ≡ true)
bytes-shape (Held.Number default fixed) s w kind = clash (sym kind)
bytes-shape Held.Bytes s w kind = Iff.rfl

number-kind : (h : Held) (w : ℕ) → is_number_of h w ≡ true → held_is_bytes h ≡ false
number-kind (Held.Number default fixed) w e = refl
number-kind Held.Bytes w e = clash (sym e)

bytes-kind : (h : Held) (s w : ℕ) → is_bytes_of h s w ≡ true → held_is_bytes h ≡ true
bytes-kind (Held.Number default fixed) s w e = clash (sym e)
bytes-kind Held.Bytes s w e = refl

pub bytes_whole : (h : Held) (s w : ℕ) → is_bytes_of h s w ≡ true → (s % 8 ≡ 0) × (w % 8 ≡ 0) × (16 ≤ w)
bytes_whole (Held.Number default fixed) s w e = clash (sym e)
bytes_whole Held.Bytes s w e = let q = simp (and_is, eqb_is, leb-is) at e in (q.0.0, q.0.1, q.1)

never-fixed : (h : Held) → held_is_bytes h ≡ true → held_fixed h ≡ false
never-fixed (Held.Number default fixed) kind = clash (sym kind)
never-fixed Held.Bytes kind = refl

-- ---- what access 1 to 3 let pass

-- a field can stand there; the buffer is as long as the header; what is asked is what is held
pub record Reached (p : Locator) (n : ℕ) (as_bytes : Bool) : Type 0 where
  pub located : Located p
  pub long : locator_header p ≤ n
  pub kind : as_bytes ≡ held_is_bytes p.held

module _ (p : Locator) (n : ℕ) (as_bytes : Bool) where
  pub reached-is : (reach_at p n as_bytes ≡ accepted) ↔ Reached p n as_bytes
  unfolding reach_at
  reached-is = simp (both_is, refuse-is, not_is, located-is, ltb-is-not, kind-is)
      (λ q. record { located = q.0; long = q.1.0; kind = q.1.1 }, λ r. (r.located, (r.long, r.kind)))

  -- one that no field can have is access 1, in a short buffer too; and a short buffer is access 2, whatever is asked
  pub access-1 : (Located p → ⊥) → reach_at p n as_bytes ≡ refused Group.Access 1 p.index
  unfolding reach_at
  access-1 never = rw ((fails-is (is_locator p)).1 (λ e. never ((located-is p).0 e)))

  access-2 : Located p → n < locator_header p → reach_at p n as_bytes ≡ refused Group.Access 2 p.index
  unfolding reach_at
  access-2 at short = rw ((located-is p).1 at, lt-ltb n (locator_header p) short)

-- ---- reads of numbers

-- what is said of a read of the run, and of a write to it; and the buffer after the write
abbrev told_at : ℕ → Result ℕ RunFault → Answer Value
told_at i r = number_answer_says (at_field i r)

abbrev left_at : ℕ → RunCheck → Check
left_at i r = says (at_field i r)

left-is : (i : ℕ) (r : RunCheck) (b c : List ℕ) → after_write r b c ≡ after (left_at i r) c b
left-is i (Ok _) b c = refl
left-is i (Err fault) b c = refl

-- where the header is too long, or no such number is held, none is reached
pub no_number : (p : Locator) (n : ℕ) → holds_no_number p ≡ true → reach_at p n false ≡ accepted → ⊥
no_number p n e r =
    let at = (reached-is p n false).0 r in
    ⊎_elim
    (λ over. omega (arith, at.located.most, ltb-true max_bytes (locator_header p) over))
    (λ other. clash (sym ((number-shape p.held (first_bit p) (locator_width p) (sym at.kind)).0 at.located.shape).0 ∙ not-true (is_number_of p.held (locator_width p)) other))
    (one-or-other (ltb max_bytes (locator_header p)) (not (is_number_of p.held (locator_width p))) e)

-- otherwise the run decides
module _ (p : Locator) (b : List ℕ) (free : holds_no_number p ≡ false) where
  few : ltb max_bytes (locator_header p) ≡ false
  few = (neither _ _ free).0

  holds : is_number_of p.held (locator_width p) ≡ true
  holds = not-false (is_number_of p.held (locator_width p)) (neither (ltb max_bytes (locator_header p)) _ free).1

  kind : held_is_bytes p.held ≡ false
  kind = number-kind p.held (locator_width p) holds

  stands : touched (first_bit p) (locator_width p) ≤ 8 → first_bit p + locator_width p ≤ 8 * locator_header p → Located p
  stands narrow inside = record {
    most = ltb-false max_bytes (locator_header p) few;
    inside = inside;
    shape = (number-shape p.held (first_bit p) (locator_width p) kind).1 (holds, narrow);
  }

  narrow : Located p → touched (first_bit p) (locator_width p) ≤ 8
  narrow at = ((number-shape p.held (first_bit p) (locator_width p) kind).0 at.shape).1

  pub number-told : {r : Result ℕ RunFault} → r ≡ read_number b (locator_header p) (first_bit p) (locator_width p) → number_answer_says (at_field p.index r) ≡ read_at p b false
  unfolding read_number read_at
  number-told e =
      ap (told_at p.index) e
      ∙ by-fit (length b) (locator_header p) (first_bit p) (locator_width p)
      (λ f. told_at p.index (read_as f (value b (first_bit p) (locator_width p))) ≡ (reach_at p (length b) false and_then gives (number (value b (first_bit p) (locator_width p)))))
      (λ wide. rw (access-1 p (length b) false (λ at. omega (arith, narrow at))))
      (λ _ past. rw (access-1 p (length b) false (λ at. omega (arith, at.inside))))
      (λ l inside short. rw (access-2 p (length b) false (stands l inside) short))
      (λ l inside long. rw ((reached-is p (length b) false).1 (record { located = stands l inside; long = long; kind = sym kind })))

-- ---- a read at once

-- what a read of the run says is seen so
seen-told : (i : ℕ) (r : Result ℕ RunFault) → seen r ≡ seen_of (told_at i r)
seen-told i (Ok v) = refl
seen-told i (Err fault) = refl

module _ (p : Locator) (b : List ℕ) where
  pub number-seen : holds_no_number p ≡ false → read_at_once b (locator_header p) (first_bit p) (locator_width p) ≡ seen_at p b
  number-seen free =
      let r = read_number b (locator_header p) (first_bit p) (locator_width p) in
      ap (λ (x : Option ℕ). cond (leb 8 (length b)) x None) (seen-told p.index r ∙ ap seen_of (number-told p b free {r = r} refl))

  -- where no number is reached, none is seen
  pub not_seen : (reach_at p (length b) false ≡ accepted → ⊥) → None ≡ seen_at p b
  unfolding read_at
  not_seen none = of (leb 8 (length b)) (reach_at p (length b) false) none
    where
      read : Value
      read = run_value b false (first_bit p) (locator_width p)

      of : (long : Bool) (x : Check) → (x ≡ accepted → ⊥) → None ≡ cond long (seen_of (x and_then gives read)) None
      of true (gives _) never = absurd (never refl)
      of true (refused g n at) never = refl
      of false x never = refl

  -- and a number that is seen is the one that is read
  pub seen-is : {v : ℕ} → Some v ≡ seen_at p b → read_at p b false ≡ gives (number v)
  seen-is {v} = of (leb 8 (length b)) (read_at p b false)
    where
      of : (long : Bool) (x : Answer Value) → Some v ≡ cond long (seen_of x) None → x ≡ gives (number v)
      of true (gives (number w)) e = cc
      of true (gives (bytes l)) e = cc
      of true (refused g n at) e = cc
      of false x e = cc

-- ---- reads of bytes

-- where the header is too long, or no such bytes are held, none are reached
pub no_bytes : (p : Locator) (n : ℕ) → holds_no_bytes p ≡ true → reach_at p n true ≡ accepted → ⊥
no_bytes p n e r =
    let at = (reached-is p n true).0 r in
    ⊎_elim
    (λ over. omega (arith, at.located.most, ltb-true max_bytes (locator_header p) over))
    (λ other. clash (sym ((bytes-shape p.held (first_bit p) (locator_width p) (sym at.kind)).0 at.located.shape) ∙ not-true (is_bytes_of p.held (first_bit p) (locator_width p)) other))
    (one-or-other (ltb max_bytes (locator_header p)) (not (is_bytes_of p.held (first_bit p) (locator_width p))) e)

-- and so an empty part is read
pub nothing_read : (p : Locator) (b : List ℕ) → holds_no_bytes p ≡ true → [] ≡ part_of (read_at p b true)
unfolding read_at
nothing_read p b none = of (reach_at p (length b) true) (no_bytes p (length b) none)
  where
    of : (x : Check) → (x ≡ accepted → ⊥) → [] ≡ part_of (x and_then gives (run_value b true (first_bit p) (locator_width p)))
    of (gives _) h = absurd (h refl)
    of (refused g n at) h = refl

-- otherwise the run decides
module _ (p : Locator) (b : List ℕ) (free : holds_no_bytes p ≡ false) where
  are-bytes-of : is_bytes_of p.held (first_bit p) (locator_width p) ≡ true
  are-bytes-of = not-false (is_bytes_of p.held (first_bit p) (locator_width p)) (neither (ltb max_bytes (locator_header p)) _ free).1

  are-bytes : held_is_bytes p.held ≡ true
  are-bytes = bytes-kind p.held (first_bit p) (locator_width p) are-bytes-of

  whole : (first_bit p % 8 ≡ 0) × (locator_width p % 8 ≡ 0) × (16 ≤ locator_width p)
  whole = bytes_whole p.held (first_bit p) (locator_width p) are-bytes-of

  bytes-stand : first_bit p / 8 + locator_width p / 8 ≤ locator_header p → Located p
  bytes-stand inside = record {
    most = ltb-false max_bytes (locator_header p) (neither _ _ free).0;
    inside = omega (arith, whole);
    shape = (bytes-shape p.held (first_bit p) (locator_width p) are-bytes).1 are-bytes-of;
  }

  pub bytes-told : bytes_at b (locator_header p) (first_bit p / 8) (locator_width p / 8) ≡ part_of (read_at p b true)
  unfolding bytes_at read_at
  bytes-told =
      by_place (length b) (locator_header p) (first_bit p / 8) (locator_width p / 8)
      (λ (r : RunCheck). bytes_as r (take (locator_width p / 8) (drop (first_bit p / 8) b)) ≡ part_of (reach_at p (length b) true and_then gives (run_value b true (first_bit p) (locator_width p))))
      (λ past. rw (access-1 p (length b) true (λ at. omega (arith, at.inside, whole))))
      (λ inside short. rw (access-2 p (length b) true (bytes-stand inside) short))
      (λ inside long. rw ((reached-is p (length b) true).1 (record { located = bytes-stand inside; long = long; kind = sym are-bytes })))

-- ---- writes

-- what access 1 to 5 let pass
pub record Writable (p : Locator) (n : ℕ) (v : Value) : Type 0 where
  pub reached : Reached p n (of_bytes v)
  pub size : OfSize v (locator_width p)
  pub free : held_fixed p.held ≡ true → spells v ≡ held_default p.held

pub writable-is : (p : Locator) (n : ℕ) (v : Value) → (write_check_at p n v ≡ accepted) ↔ Writable p n v
unfolding write_check_at suit
writable-is p n v = simp (both_is, refuse-is, reached-is, not_is, fits-is, fixed-is)
    (λ q. record { reached = q.0; size = q.1.0; free = q.1.1 }, λ w. (w.reached, (w.size, w.free)))

module _ (p : Locator) (b : List ℕ) (v : Value) where
  -- a write that is refused changes nothing
  pub not_written : {j : Result (Unit {0}) Refusal} → (write_check_at p (length b) v ≡ accepted → ⊥) → says j ≡ write_check_at p (length b) v → WrittenAt p b b v j
  unfolding apply_at
  not_written {j} never e = record { answer = e; bytes = of (write_check_at p (length b) v) never }
    where
      of : (x : Check) → (x ≡ accepted → ⊥) → b ≡ after x (put b (first_bit p) (locator_width p) (spells v)) b
      of (gives _) h = absurd (h refl)
      of (refused g n at) h = refl

  -- what a run answered, and left, is what is owed
  left-written : {c : List ℕ} (r : RunCheck) {j : Result (Unit {0}) Refusal} → c ≡ after_write r b (put b (first_bit p) (locator_width p) (spells v)) → j ≡ at_field p.index r
      → left_at p.index r ≡ write_check_at p (length b) v → WrittenAt p b c v j
  unfolding apply_at
  left-written r left said is = record {
    answer = ap says said ∙ is;
    bytes = left ∙ left-is p.index r b _ ∙ ap (λ (x : Check). after x (put b (first_bit p) (locator_width p) (spells v)) b) is;
  }

-- access 4 and 5, past 1 to 3
suits : (p : Locator) (n : ℕ) (v : Value) → Reached p n (of_bytes v) → write_check_at p n v ≡ suit (field_located p) v p.index
unfolding write_check_at
suits p n v r = rw ((reached-is p n (of_bytes v)).1 r)

-- 1 to 3 stand
pub reach-stands : (p : Locator) (n : ℕ) (v : Value) {g : Group} {k at : ℕ} → reach_at p n (of_bytes v) ≡ refused g k at → refused g k at ≡ write_check_at p n v
unfolding write_check_at
reach-stands p n v e = sym (refusal-stands (suit (field_located p) v p.index) e)

-- where it is fixed to another number, too, no number is taken
pub number-barred : (p : Locator) (n v : ℕ) → bars_number p v ≡ true → write_check_at p n (number v) ≡ accepted → ⊥
number-barred p n v e w =
    let may = (writable-is p n (number v)).0 w in
    ⊎_elim
    (λ first. no_number p n first ((reached-is p n false).1 may.reached))
    (λ off. clash (sym off ∙ (fixed-is (held_fixed p.held) v (held_default p.held)).1 may.free))
    (one-or-other (holds_no_number p) _ e)

module _ (p : Locator) (b : List ℕ) (v : ℕ) (passed : bars_number p v ≡ false) where
  -- what was asked beside the run
  free : holds_no_number p ≡ false
  free = (neither (holds_no_number p) _ passed).0

  not-off : (held_fixed p.held && not (eqb v (held_default p.held))) ≡ false
  not-off = (neither (holds_no_number p) _ passed).1

  -- the run fits: the number's size is left
  sized : Reached p (length b) false → (small : Bool) → ltb v (2 ^ locator_width p) ≡ small → left_at p.index (cond small (Ok tt) (Err RunFault.TooLarge)) ≡ write_check_at p (length b) (number v)
  unfolding suit
  sized at true e = sym (suits p (length b) (number v) at ∙ rw (e, not-off))
  sized at false e = sym (suits p (length b) (number v) at ∙ rw e)

  -- what the run answers is what is owed there
  number-as : left_at p.index (write_answer (length b) (locator_header p) (first_bit p) (locator_width p) v) ≡ write_check_at p (length b) (number v)
  unfolding write_answer
  number-as =
      by-fit (length b) (locator_header p) (first_bit p) (locator_width p)
      (λ f. left_at p.index (write_as f (locator_width p) v) ≡ write_check_at p (length b) (number v))
      (λ wide. reach-stands p (length b) (number v) (access-1 p (length b) false (λ at. omega (arith, narrow p b free at))))
      (λ _ past. reach-stands p (length b) (number v) (access-1 p (length b) false (λ at. omega (arith, at.inside))))
      (λ l inside short. reach-stands p (length b) (number v) (access-2 p (length b) false (stands p b free l inside) short))
      (λ l inside long. sized (record { located = stands p b free l inside; long = long; kind = sym (kind p b free) }) (ltb v (2 ^ locator_width p)) refl)

  pub number-left : {c : List ℕ} {r : RunCheck} {j : Result (Unit {0}) Refusal} → NumberWritten b c (locator_header p) (first_bit p) (locator_width p) v r → j ≡ at_field p.index r
      → WrittenAt p b c (number v) j
  number-left x said = left-written p b (number v) _ x.bytes said (ap (left_at p.index) x.answer ∙ number-as)

  -- so a write is accepted where that of the run is done
  accepts-is : is_given (write_check_at p (length b) (number v)) ≡ is_done (write_answer (length b) (locator_header p) (first_bit p) (locator_width p) v)
  accepts-is = ap is_given (sym number-as) ∙ of (write_answer (length b) (locator_header p) (first_bit p) (locator_width p) v)
    where
      of : (r : RunCheck) → is_given (left_at p.index r) ≡ is_done r
      of (Ok _) = refl
      of (Err fault) = refl

  pub number-at-once : {c : List ℕ} {r : Bool} → NumberAtOnce b c (locator_header p) (first_bit p) (locator_width p) v r → WrittenAtOnce p b c v r
  unfolding apply_at
  number-at-once {c} {r} x =
      let exact : r ≡ (leb 8 (length b) && is_given (write_check_at p (length b) (number v))) = rw accepts-is x.answer in
      record { answer = exact; bytes = x.bytes ∙ left r exact }
    where
      given-after : (w : Check) → is_given w ≡ true → (b' : List ℕ) → b' ≡ after w b' b
      given-after (gives _) e b' = refl
      given-after (refused g n at) e b' = clash (sym e)

      left : (t : Bool) → t ≡ (leb 8 (length b) && is_given (write_check_at p (length b) (number v)))
          → cond t (put b (first_bit p) (locator_width p) v) b ≡ cond t (after (write_check_at p (length b) (number v)) (put b (first_bit p) (locator_width p) v) b) b
      left true e = given-after (write_check_at p (length b) (number v)) (both_hold (leb 8 (length b)) _ (sym e)).1 _
      left false e = refl

-- and where no number is taken, none is written at once
pub not-at-once : (p : Locator) (b : List ℕ) (v : ℕ) → (write_check_at p (length b) (number v) ≡ accepted → ⊥) → WrittenAtOnce p b b v false
not-at-once p b v never = record { answer = rw (of (write_check_at p (length b) (number v)) never, and-false); bytes = refl }
  where
    of : (x : Check) → (x ≡ accepted → ⊥) → is_given x ≡ false
    of (gives _) none = absurd (none refl)
    of (refused g n at) none = refl

-- a write at once is a write that is accepted, or none
module _ {p : Locator} {b c : List ℕ} {v : ℕ} where
  pub at-once-written : WrittenAtOnce p b c v true → WrittenAt p b c (number v) (Ok tt)
  at-once-written w = record { answer = of (write_check_at p (length b) (number v)) (both_hold (leb 8 (length b)) _ (sym w.answer)).1; bytes = w.bytes }
    where
      of : (x : Check) → is_given x ≡ true → accepted ≡ x
      of (gives _) e = refl
      of (refused g n at) e = clash (sym e)

  pub at-once-none : WrittenAtOnce p b c v false → c ≡ b
  at-once-none w = w.bytes

pub bytes-barred : (p : Locator) (n : ℕ) (l : List ℕ)
    → (holds_no_bytes p || not (eqb (8 * length l) (locator_width p))) ≡ true
    → write_check_at p n (bytes l) ≡ accepted → ⊥
bytes-barred p n l e w =
    let may = (writable-is p n (bytes l)).0 w in
    ⊎_elim
    (λ first. no_bytes p n first ((reached-is p n true).1 may.reached))
    (λ other. clash (sym (eq-eqb (8 * length l) (locator_width p) may.size) ∙ not-true (eqb (8 * length l) (locator_width p)) other))
    (one-or-other (holds_no_bytes p) _ e)

module _ (p : Locator) (b l : List ℕ) (free : holds_no_bytes p ≡ false) (counted : eqb (8 * length l) (locator_width p) ≡ true) where
  -- the bytes start on a byte boundary, and are as many as the run has
  from : 8 * (first_bit p / 8) ≡ first_bit p
  from = omega (arith, whole p b free)

  count : 8 * length l ≡ locator_width p
  count = eqb-true (8 * length l) (locator_width p) counted

  stand : first_bit p / 8 + length l ≤ locator_header p → Located p
  stand inside = bytes-stand p b free (omega (arith, from, count))

  -- in the header, they are accepted: bytes are never fixed
  counted-accepted : Reached p (length b) true → write_check_at p (length b) (bytes l) ≡ accepted
  counted-accepted at = (writable-is p (length b) (bytes l)).1 (record { reached = at; size = count; free = λ e. clash (sym e ∙ never-fixed p.held (are-bytes p b free)) })

  pub bytes_left : {c : List ℕ} {r : RunCheck} {j : Result (Unit {0}) Refusal} → BytesWritten b c (locator_header p) (first_bit p / 8) (length l) (spelled l) r → j ≡ at_field p.index r
      → WrittenAt p b c (bytes l) j
  bytes_left x said =
      left-written p b (bytes l) _ (x.bytes ∙ ap (after_write _ b) (ap (λ (s : ℕ). put b s (8 * length l) (spelled l)) from ∙ ap (λ (w : ℕ). put b (first_bit p) w (spelled l)) count)) said
      (ap (left_at p.index) x.answer
      ∙ by_place (length b) (locator_header p) (first_bit p / 8) (length l)
      (λ (r : RunCheck). left_at p.index r ≡ write_check_at p (length b) (bytes l))
      (λ past. reach-stands p (length b) (bytes l) (access-1 p (length b) true (λ at. omega (arith, at.inside, from, count))))
      (λ inside short. reach-stands p (length b) (bytes l) (access-2 p (length b) true (stand inside) short))
      (λ inside long. sym (counted-accepted (record { located = stand inside; long = long; kind = sym (are-bytes p b free) }))))

-- bytes are never fixed, so that access 4 is the last to be asked of them
pub bytes-judged : (p : Locator) (n : ℕ) (l : List ℕ) → (reach_at p n true and_then refuse (not (eqb (8 * length l) (locator_width p))) Group.Access 4 p.index) ≡ write_check_at p n (bytes l)
unfolding write_check_at suit
bytes-judged p n l = by_answer (reach_at p n true) refl
  where
    counted : Check
    counted = refuse (not (eqb (8 * length l) (locator_width p))) Group.Access 4 p.index

    by_answer : (x : Check) → reach_at p n true ≡ x → (x and_then counted) ≡ (x and_then counted and_then refuse (held_fixed p.held && not (eqb (spelled l) (held_default p.held))) Group.Access 5 p.index)
    by_answer (gives _) e = rw (never-fixed p.held (sym ((reached-is p n true).0 e).kind)) (sym (and_then-accepted counted))
    by_answer (refused g k at) e = refl

-- ---- one answer

pub number-answer-one : (q r : Result ℕ Refusal) → number_answer_says q ≡ number_answer_says r → q ≡ r
number-answer-one (Ok x) (Ok y) e = cc
number-answer-one (Ok x) (Err r) e = cc
number-answer-one (Err q) (Ok y) e = cc
number-answer-one (Err q) (Err r) e = ap Err (refusal-one q r e)

pub written_one : {p : Locator} {b c d : List ℕ} {v : Value} {q r : Result (Unit {0}) Refusal} → WrittenAt p b c v q → WrittenAt p b d v r → (q ≡ r) × (c ≡ d)
written_one {q = q} {r} x y = (says-one q r (x.answer ∙ sym y.answer), x.bytes ∙ sym y.bytes)
