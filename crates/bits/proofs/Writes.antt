-- What a write to a run of bits does, start and width left open, for numbers and for bytes, which are the run of all their bits: it has one result;
-- it reads back; nothing else changes; writing what was read changes nothing; the second of two writes counts; disjoint writes commute.
-- Each law speaks of `bit` and `value`, the bit order of RFC 791. Last, the contracts of the writes: they allow one
-- answer, and where nothing stands against a write the buffer is what `put` gives. Assumes nothing.
use mathlib.Core.Path.{◌≡◌, sym, ap, ◌∙◌, subst}
use mathlib.Core.List.{List}
use mathlib.Core.Logic.{◌⊎◌, inl, inr}
use Prim.Native.Nat.{ℕ, suc, ◌+◌, ◌-◌, ◌*◌, ◌/◌, ◌%◌, ◌^◌, ◌≤◌, ◌<◌}
use native.Mathlib.Nat.{mod-eq_of_lt, zero-add, mul-add-div_right, mul-add-mod_self_right}
use native.Mathlib.Omega.{arith}
use lib.ListN.{length, take, drop, length-drop}
use lib.Pow.{pow_pos, pow-add, shr-shr, high}
use lib.Seq.{length-take-le, get_or-take, get_or-drop}
use borrow.Author.Tests.{lt-ltb, le-ltb}
use Rattle.std.specs.Prelude.{Ok}
use Rattle.octets.specs.Octets.{AreBytes, byte}
use Rattle.bits.specs.Bits.{bit, value, spelled, touched}
use Rattle.bits.specs.Writes.{Wrote, new_bit, put, put_bytes}
use Rattle.bits.specs.Runs.{RunCheck, after_write, fit_of, write_answer, NumberWritten, bytes_answer, BytesWritten}
use Rattle.bits.proofs.Num.{num-ext, num-inj, num-digits, num-at}
use Rattle.octets.proofs.Octets.{bytes_take, bytes_drop}
use Rattle.bits.proofs.Bits.{bit-lt, bit_moved, bits-ext, spelled-ext, value-lt, value-byte}
use Rattle.bits.proofs.Put.{by-run, new-before, new_in, new-after, put-length, put-bytes, put-before, put-after, put_in, put-ext, put-none}

-- ---- reading

module _ (b : List ℕ) (s w v : ℕ) where
  -- it reads back
  pub read_back : s + w ≤ 8 * length b → v < 2 ^ w → value (put b s w v) s w ≡ v
  read_back within small =
      num-digits (bit (put b s w v)) s w v (λ j h. put_in b s w v j h (omega arith)) ∙ mod-eq_of_lt small

  -- every other run is unchanged
  pub read-before : (t x : ℕ) → t + x ≤ s → value (put b s w v) t x ≡ value b t x
  read-before t x l = num-ext (bit (put b s w v)) (bit b) t t x (λ j h. put-before b s w v (t + j) (omega arith))

  pub read-after : (t x : ℕ) → s + w ≤ t → value (put b s w v) t x ≡ value b t x
  read-after t x l = num-ext (bit (put b s w v)) (bit b) t t x (λ j h. put-after b s w v (t + j) (omega arith))

-- ---- one result

-- two buffers of which both are the result of one write
pub one-result : {b c d : List ℕ} {s w v : ℕ} → Wrote b c s w v → Wrote b d s w v → c ≡ d
one-result {b} {c} {d} {s} {w} x y =
    bits-ext c d x.bytes y.bytes (x.same_length ∙ sym y.same_length) (λ k _. by-run s w k
    (λ l. x.before k l ∙ sym (y.before k l))
    (λ j h e. rw (← e) (num-inj (bit c) (bit d) (bit-lt c) (bit-lt d) s s w (x.holds ∙ sym y.holds) j h))
    (λ l. x.after k l ∙ sym (y.after k l)))

-- `put` is a result
pub put-wrote : (b : List ℕ) (s w v : ℕ) → s + w ≤ 8 * length b → v < 2 ^ w → Wrote b (put b s w v) s w v
put-wrote b s w v within small = record {
  bytes = put-bytes b s w v;
  same_length = put-length b s w v;
  before = put-before b s w v;
  holds = read_back b s w v within small;
  after = put-after b s w v;
}

-- and the only one
pub wrote-put : {b c : List ℕ} {s w v : ℕ} → s + w ≤ 8 * length b → v < 2 ^ w → Wrote b c s w v → c ≡ put b s w v
wrote-put {b} {c} {s} {w} {v} within small h = one-result h (put-wrote b s w v within small)

-- ---- two writes

-- writing what was read changes nothing
pub write_read : (b : List ℕ) (s w : ℕ) → AreBytes b → put b s w (value b s w) ≡ b
write_read b s w h =
    put-none b s w (value b s w) h (λ k l. by-run s w k
    (new-before b s w (value b s w) k)
    (λ j i e. rw (← e) (new_in b s w (value b s w) j i ∙ num-at (bit b) (bit-lt b) s w j i))
    (new-after b s w (value b s w) k))

-- the second of two writes to a run counts
pub second-counts : (b : List ℕ) (s w u v : ℕ) → put (put b s w u) s w v ≡ put b s w v
second-counts b s w u v =
    let c = put b s w u in
    put-ext c b s w v s w v (put-length b s w u) (λ k l. by-run s w k
    (λ h. new-before c s w v k h ∙ put-before b s w u k h ∙ sym (new-before b s w v k h))
    (λ j h e. rw (← e) (new_in c s w v j h ∙ sym (new_in b s w v j h)))
    (λ h. new-after c s w v k h ∙ put-after b s w u k h ∙ sym (new-after b s w v k h)))

-- writes to disjoint runs commute: the first run lies before the second
ordered : (b : List ℕ) (s w u t x v : ℕ) → s + w ≤ t → put (put b s w u) t x v ≡ put (put b t x v) s w u
ordered b s w u t x v apart =
    put-ext c d t x v s w u (put-length b s w u ∙ sym (put-length b t x v)) (λ k l. by-run s w k
    (λ h. new-before c t x v k (omega arith) ∙ put-before b s w u k h ∙ sym (new-before d s w u k h ∙ put-before b t x v k (omega arith)))
    (λ j h e. rw (← e) (new-before c t x v (s + j) (omega arith) ∙ put_in b s w u j h (omega (arith, put-length b s w u)) ∙ sym (new_in d s w u j h)))
    (λ h. past k (omega (arith, put-length b s w u)) h ∙ sym (new-after d s w u k h)))
  where
    c : List ℕ
    c = put b s w u

    d : List ℕ
    d = put b t x v

    past : (k : ℕ) → k < 8 * length b → s + w ≤ k → new_bit c t x v k ≡ bit d k
    past k l h = by-run t x k
        (λ m. new-before c t x v k m ∙ put-after b s w u k h ∙ sym (put-before b t x v k m))
        (λ j i e. rw (← e) (new_in c t x v j i ∙ sym (put_in b t x v j i (omega arith))))
        (λ m. new-after c t x v k m ∙ put-after b s w u k h ∙ sym (put-after b t x v k m))

pub commute : (b : List ℕ) (s w u t x v : ℕ) → (s + w ≤ t) ⊎ (t + x ≤ s) → put (put b s w u) t x v ≡ put (put b t x v) s w u
commute b s w u t x v (inl before) = ordered b s w u t x v before
commute b s w u t x v (inr after) = sym (ordered b t x v s w u after)

-- ---- side by side

-- of a number of w digits below others, and of those others, each binary digit
digit_low : (hi lo w e : ℕ) → e < w → (hi * 2 ^ w + lo) / 2 ^ e % 2 ≡ lo / 2 ^ e % 2
digit_low hi lo w e h =
    let d = w - suc e in
    let len : w ≡ d + 1 + e = omega arith in
    let parts : hi * 2 ^ w ≡ hi * 2 ^ d * 2 * 2 ^ e = ap (λ (n : ℕ). hi * 2 ^ n) len ∙ rw (pow-add 2 (d + 1) e, pow-add 2 d 1) (omega arith) in
    rw (parts, mul-add-div_right (pow_pos e) (hi * 2 ^ d * 2) lo) (mul-add-mod_self_right (hi * 2 ^ d) 2 (lo / 2 ^ e))

digit-high : (hi lo w e : ℕ) → lo < 2 ^ w → (hi * 2 ^ w + lo) / 2 ^ (w + e) % 2 ≡ hi / 2 ^ e % 2
digit-high hi lo w e h = rw (← (shr-shr (hi * 2 ^ w + lo) w e), high hi w h)

-- two runs side by side, written one after the other, are one run
pub side_by_side : (b : List ℕ) (s m n hi lo : ℕ) → lo < 2 ^ n → put (put b s m hi) (s + m) n lo ≡ put b s (m + n) (hi * 2 ^ n + lo)
side_by_side b s m n hi lo small =
    put-ext c b (s + m) n lo s (m + n) both (put-length b s m hi) (λ k l. by-run (s + m) n k
    (λ h. new-before c (s + m) n lo k h ∙ upper k (omega (arith, put-length b s m hi)) h)
    (λ j h e. rw (← e) (new_in c (s + m) n lo j h ∙ sym (lower j h)))
    (λ h. new-after c (s + m) n lo k h ∙ put-after b s m hi k (omega arith) ∙ sym (new-after b s (m + n) both k (omega arith))))
  where
    both : ℕ
    both = hi * 2 ^ n + lo

    c : List ℕ
    c = put b s m hi

    lower : (j : ℕ) → j < n → new_bit b s (m + n) both (s + m + j) ≡ lo / 2 ^ (n - suc j) % 2
    lower j h =
        let at : s + (m + j) ≡ s + m + j = omega arith in
        let below : m + n - suc (m + j) ≡ n - suc j = omega arith in
        subst (λ (i : ℕ). new_bit b s (m + n) both i ≡ lo / 2 ^ (n - suc j) % 2) at
        (new_in b s (m + n) both (m + j) (omega arith) ∙ ap (λ (e : ℕ). both / 2 ^ e % 2) below ∙ digit_low hi lo n (n - suc j) (omega arith))

    upper : (k : ℕ) → k < 8 * length b → k < s + m → bit c k ≡ new_bit b s (m + n) both k
    upper k l h = by-run s m k
        (λ i. put-before b s m hi k i ∙ sym (new-before b s (m + n) both k i))
        (λ j i e.
        let above : m + n - suc j ≡ n + (m - suc j) = omega arith in
        rw (← e) (put_in b s m hi j i (omega arith)
        ∙ sym (new_in b s (m + n) both j (omega arith) ∙ ap (λ (e : ℕ). both / 2 ^ e % 2) above ∙ digit-high hi lo n (m - suc j) small)))
        (λ i. absurd (omega arith))

-- ---- whole bytes

-- bytes that a run does not touch are unchanged
module _ (b : List ℕ) (s w v : ℕ) (h : AreBytes b) where
  pub byte-before : (i : ℕ) → 8 * i + 8 ≤ s → byte (put b s w v) i ≡ byte b i
  byte-before i l = sym (value-byte (put b s w v) i (put-bytes b s w v i)) ∙ read-before b s w v (8 * i) 8 l ∙ value-byte b i (h i)

  pub byte-after : (i : ℕ) → s + w ≤ 8 * i → byte (put b s w v) i ≡ byte b i
  byte-after i l = sym (value-byte (put b s w v) i (put-bytes b s w v i)) ∙ read-after b s w v (8 * i) 8 l ∙ value-byte b i (h i)

-- the n bytes from byte f on spell the number of their run
module _ (b : List ℕ) (f n : ℕ) (within : f + n ≤ length b) where
  part_count : length (take n (drop f b)) ≡ n
  part_count = length-take-le n (drop f b) (rw (length-drop f b) (omega arith))

  part-byte : (i : ℕ) → i < n → byte (take n (drop f b)) i ≡ byte b (f + i)
  part-byte i h = get_or-take n (drop f b) i 0 h ∙ get_or-drop f b i 0

  pub part-spelled : spelled (take n (drop f b)) ≡ value b (8 * f) (8 * n)
  part-spelled =
      ap (λ (m : ℕ). value (take n (drop f b)) 0 (8 * m)) part_count
      ∙ num-ext (bit (take n (drop f b))) (bit b) 0 (8 * f) (8 * n) (λ j h.
      rw (zero-add j) (bit_moved (take n (drop f b)) b f j (part-byte (j / 8) (omega arith))))

-- bytes that were written read back
pub bytes_back : (b : List ℕ) (f : ℕ) (l : List ℕ) → AreBytes l → f + length l ≤ length b → take (length l) (drop f (put_bytes b f l)) ≡ l
bytes_back b f l h within =
    spelled-ext (take (length l) (drop f c)) l (bytes_take (length l) (drop f c) (bytes_drop f c (put-bytes b (8 * f) (8 * length l) (spelled l)))) h
    (part_count c f (length l) inside)
    (part-spelled c f (length l) inside ∙ read_back b (8 * f) (8 * length l) (spelled l) (omega arith) (value-lt l 0 (8 * length l)))
  where
    c : List ℕ
    c = put_bytes b f l

    inside : f + length l ≤ length c
    inside = rw (put-length b (8 * f) (8 * length l) (spelled l)) within

-- writing the bytes that were read changes nothing
pub write-bytes-read : (b : List ℕ) (f n : ℕ) → AreBytes b → f + n ≤ length b → put_bytes b f (take n (drop f b)) ≡ b
write-bytes-read b f n h within =
    ap (put b (8 * f) (8 * length (take n (drop f b)))) (part-spelled b f n within)
    ∙ ap (λ (m : ℕ). put b (8 * f) (8 * m) (value b (8 * f) (8 * n))) (part_count b f n within)
    ∙ write_read b (8 * f) (8 * n) h

-- ---- the contracts of the writes: one answer, and one buffer after it

-- where the answer is given, and the buffer by the answer
written_one : (b w : List ℕ) {c d : List ℕ} {a q r : RunCheck} → q ≡ a → r ≡ a → c ≡ after_write q b w → d ≡ after_write r b w → (q ≡ r) × (c ≡ d)
written_one b w x y f g =
    let same = x ∙ sym y in (same, f ∙ ap (λ (r : RunCheck). after_write r b w) same ∙ sym g)

pub number-written-one : {b c d : List ℕ} {h s w v : ℕ} {q r : RunCheck} → NumberWritten b c h s w v q → NumberWritten b d h s w v r → (q ≡ r) × (c ≡ d)
number-written-one x y = written_one _ _ x.answer y.answer x.bytes y.bytes

pub bytes-written-one : {b c d : List ℕ} {h f n v : ℕ} {q r : RunCheck} → BytesWritten b c h f n v q → BytesWritten b d h f n v r → (q ≡ r) × (c ≡ d)
bytes-written-one x y = written_one _ _ x.answer y.answer x.bytes y.bytes

-- ---- and where nothing stands against a write, the buffer is the one that `put` gives

written_put : (b w : List ℕ) {c : List ℕ} {a r : RunCheck} → r ≡ a → a ≡ Ok tt → c ≡ after_write r b w → c ≡ w
written_put b w x done f = f ∙ ap (λ (r : RunCheck). after_write r b w) (x ∙ done)

pub number_put : {b c : List ℕ} {h s w v : ℕ} {r : RunCheck} → touched s w ≤ 8 → s + w ≤ 8 * h → h ≤ length b → v < 2 ^ w → NumberWritten b c h s w v r → c ≡ put b s w v
unfolding write_answer fit_of
number_put {b} {h = h} {s} {w} {v} narrow within long small x =
    written_put _ _ x.answer (rw (le-ltb 8 (touched s w) narrow, le-ltb (8 * h) (s + w) within, le-ltb (length b) h long, lt-ltb v (2 ^ w) small)) x.bytes

pub bytes-put : {b c : List ℕ} {h f n v : ℕ} {r : RunCheck} → f + n ≤ h → h ≤ length b → BytesWritten b c h f n v r → c ≡ put b (8 * f) (8 * n) v
unfolding bytes_answer
bytes-put {b} {h = h} {f} {n} {v} within long x =
    written_put _ _ x.answer (rw (le-ltb h (f + n) within, le-ltb (length b) h long)) x.bytes
