-- Step 1 accepts exactly the sheets of `SheetIs`: `sheet-is`. Each test is said exactly; an induction over the blocks gives their order, and the order
-- gives the counts that the tests see. Two laws of an accepted sheet do not ask that its elements are bytes: `in_order`, and `laid_out` of each block.
-- Assumes nothing.
use mathlib.Core.Path.{◌≡◌, refl, ap}
use mathlib.Core.Bool.{Bool, true, false, cond, ◌||◌}
use mathlib.Core.List.{List}
use mathlib.Core.Logic.Iff
use mathlib.Core.Logic.{⊎_elim, ◌↔◌}
use Prim.Native.Nat.{ℕ, zero, suc, ◌+◌, ◌*◌, ◌≤◌, ◌<◌}
use native.Mathlib.Nat.{eq-or-lt_of_le, lt_of_not-le}
use native.Mathlib.Decide.{dec_lt}
use native.Mathlib.Omega.{arith}
use lib.ListN.{length, take}
use borrow.Author.Tests.{eqb-true}
use Rattle.answer.specs.Paper.{accepted}
use Rattle.answer.proofs.Chains.{both_is, refuse-is, each-is}
use Rattle.answer.proofs.Tests.{one-or-other, and_is, unless-is, neither-is, not_is, eqb_is, ltb-is-not, leb-is-not}
use Rattle.answer.proofs.Walk.{nowhere-is}
use Rattle.octets.specs.Octets.{AreBytes}
use Rattle.blocks.specs.Layout.{block_size, check_at, kind_f, kind_l, kind_c, is_f, is_l, is_c, stated_slot, layout_holds}
use Rattle.blocks.specs.Ones.{words, ones_sum}
use Rattle.blocks.specs.Check.{check_holds}
use Rattle.blocks.proofs.Folding.{check-block}
use Rattle.blocks.proofs.Told.{slot-le}
use Rattle.stated.specs.Items.{Item, WellFormed}
use Rattle.stated.specs.Stated.{stated}
use Rattle.stated.proofs.Laws.{layout_is}
use Rattle.sheet.specs.Blocks.{block_count, block_at, kind_at, count, field_count, length_count}
use Rattle.sheet.specs.Sheet.{wrong_length, slot_before, block_fault, sheet_check}
use Rattle.sheet.specs.SheetIs.{InOrder, SheetIs}
use Rattle.sheet.proofs.Blocks.{block-long, block-bytes}

-- ---- single tests

-- sheet 1: whole blocks, at most 99
sized-is : (s : List ℕ) → (wrong_length s ≡ false) ↔ ((length s ≡ block_size * block_count s) × (block_count s ≤ 99))
sized-is s = simp (neither-is, not_is, eqb_is, ltb-is-not) (λ p. (omega arith, p.1), λ p. (omega arith, p.1))

-- sheet 6: no L block before gives the slot
slot_is : (s : List ℕ) (j : ℕ) → (slot_before s j ≡ false)
    ↔ (kind_at s j ≡ kind_l → (i : ℕ) → i < j → (kind_at s i ≡ kind_l) × (stated_slot (block_at s i) ≡ stated_slot (block_at s j)) → ⊥)
slot_is s j = simp (unless-is, nowhere-is, and_is, eqb_is) Iff.rfl

-- sheet 3 and 4: no L or C before an F, no C before an L; and not too many
record Turn (s : List ℕ) (i : ℕ) : Type 0 where
  f-turn : kind_at s i ≡ kind_f → (count is_l s i ≤ 0) × (count is_c s i ≤ 0)
  l-turn : kind_at s i ≡ kind_l → count is_c s i ≤ 0
  few-f : kind_at s i ≡ kind_f → count is_f s i < 64
  few-c : kind_at s i ≡ kind_c → count is_c s i < 32

-- sheet 2 to 6 of a block
record Passed (s : List ℕ) (i : ℕ) : Type 0 where
  check : check_holds (block_at s i) ≡ true
  known : (is_f (kind_at s i) || is_l (kind_at s i) || is_c (kind_at s i)) ≡ true
  turn : Turn s i
  bytes : layout_holds (block_at s i) ≡ true
  once : kind_at s i ≡ kind_l → (j : ℕ) → j < i → (kind_at s j ≡ kind_l) × (stated_slot (block_at s j) ≡ stated_slot (block_at s i)) → ⊥

passed_is : (s : List ℕ) (i : ℕ) → (block_fault s i ≡ accepted) ↔ Passed s i
unfolding block_fault
passed_is s i = simp (both_is, refuse-is, slot_is, neither-is, unless-is, not_is, eqb_is, ltb-is-not, leb-is-not) (
  λ p.
      let turn : Turn s i = record { f-turn = p.1.0.0.1; l-turn = p.1.0.1; few-f = p.1.1.0.0; few-c = p.1.1.0.1 } in
      record { check = p.0; known = p.1.0.0.0; turn = turn; bytes = p.1.1.1.0; once = p.1.1.1.1 },
  λ p. let t = p.turn in (p.check, (((p.known, t.f-turn), t.l-turn), ((t.few-f, t.few-c), (p.bytes, p.once)))),
)

-- ---- the order of the blocks

by_kind : {P : Type 0} (k : ℕ) → (is_f k || is_l k || is_c k) ≡ true → (k ≡ kind_f → P) → (k ≡ kind_l → P) → (k ≡ kind_c → P) → P
by_kind k h f l c =
    ⊎_elim (λ q. ⊎_elim (λ e. f (eqb-true k kind_f e)) (λ e. l (eqb-true k kind_l e)) (one-or-other (is_f k) (is_l k) q)) (λ e. c (eqb-true k kind_c e))
    (one-or-other (is_f k || is_l k) (is_c k) h)

module _ (s : List ℕ) where
  -- one block more, of kind k
  counts-next : (n : ℕ) {k : ℕ} → kind_at s n ≡ k → (count is_f s (suc n) ≡ count is_f s n + cond (is_f k) 1 0)
      × (count is_l s (suc n) ≡ count is_l s n + cond (is_l k) 1 0) × (count is_c s (suc n) ≡ count is_c s n + cond (is_c k) 1 0)
  unfolding count
  counts-next n e = rw e (refl, refl, refl)

  -- it is one of those before, or that block
  up_to : (n : ℕ) {k : ℕ} (i : ℕ) → i < suc n → (i < n → kind_at s i ≡ k) → (i ≡ n → kind_at s n ≡ k) → kind_at s i ≡ k
  up_to n i h old new = ⊎_elim (λ e. rw e (new e)) old (eq-or-lt_of_le {n = i} {m = n} (omega arith))

  -- of the first n blocks: first the F blocks, then the L blocks, then the C blocks
  record Ordered (n : ℕ) : Type 0 where
    all : count is_f s n + count is_l s n + count is_c s n ≡ n
    fs : (i : ℕ) → i < count is_f s n → kind_at s i ≡ kind_f
    ls : (i : ℕ) → count is_f s n ≤ i → i < count is_f s n + count is_l s n → kind_at s i ≡ kind_l
    cs : (i : ℕ) → count is_f s n + count is_l s n ≤ i → i < n → kind_at s i ≡ kind_c
    few-f : count is_f s n ≤ 64
    few-c : count is_c s n ≤ 32

  ordered-none : Ordered 0
  unfolding count
  ordered-none = omega arith

  -- one block more: what then lies in a run lay there before, or is that block
  record Next (n : ℕ) : Type 0 where
    all : count is_f s (suc n) + count is_l s (suc n) + count is_c s (suc n) ≡ suc n
    few-f : count is_f s (suc n) ≤ 64
    few-c : count is_c s (suc n) ≤ 32
    f-old : (i : ℕ) → i < n → i < count is_f s (suc n) → i < count is_f s n
    f-new : n < count is_f s (suc n) → kind_at s n ≡ kind_f
    l-old : (i : ℕ) → i < n → count is_f s (suc n) ≤ i → i < count is_f s (suc n) + count is_l s (suc n) → (count is_f s n ≤ i) × (i < count is_f s n + count is_l s n)
    l-new : count is_f s (suc n) ≤ n → n < count is_f s (suc n) + count is_l s (suc n) → kind_at s n ≡ kind_l
    c-old : (i : ℕ) → i < n → count is_f s (suc n) + count is_l s (suc n) ≤ i → count is_f s n + count is_l s n ≤ i
    c-new : count is_f s (suc n) + count is_l s (suc n) ≤ n → kind_at s n ≡ kind_c

  next : (n : ℕ) → Ordered n → Passed s n → Next n
  next n o p =
      by_kind (kind_at s n) p.known
      (λ e. omega (arith, o.all, counts-next n e, p.turn.f-turn e, p.turn.few-f e))
      (λ e. omega (arith, o.all, counts-next n e, p.turn.l-turn e))
      (λ e. omega (arith, o.all, counts-next n e, p.turn.few-c e))

  ordered : (n : ℕ) → ((i : ℕ) → i < n → Passed s i) → Ordered n
  ordered zero h = ordered-none
  ordered (suc n) h =
      let o = ordered n (λ i l. h i (omega arith)) in
      let p = next n o (h n (omega arith)) in
      record {
        all = p.all;
        fs = λ i u. up_to n i (omega (arith, p.all)) (λ l. o.fs i (p.f-old i l u)) (λ e. p.f-new (omega arith));
        ls = λ i g u. up_to n i (omega (arith, p.all)) (λ l. let w = p.l-old i l g u in o.ls i w.0 w.1) (λ e. p.l-new (omega arith) (omega arith));
        cs = λ i g u. up_to n i u (λ l. o.cs i (p.c-old i l g) l) (λ e. p.c-new (omega arith));
        few-f = p.few-f;
        few-c = p.few-c;
      }

-- ---- all of it: the order of the blocks, and that each is inside its layout

module _ (s : List ℕ) (ok : sheet_check s ≡ accepted) where
  parts : ((length s ≡ block_size * block_count s) × (block_count s ≤ 99)) × ((i : ℕ) → i < block_count s → Passed s i)
  unfolding sheet_check
  parts = simp (both_is, refuse-is, sized-is, each-is, passed_is) at ok

  all-ordered : Ordered s (block_count s)
  all-ordered = ordered s (block_count s) parts.1

  apart : (i j : ℕ) → i < j → j < block_count s → kind_at s i ≡ kind_l → kind_at s j ≡ kind_l → stated_slot (block_at s i) ≡ stated_slot (block_at s j) → ⊥
  apart i j below h k e same = (parts.1 j h).once e i below (k, same)

  -- L block k of them: its kind, and its slot
  an-l-block : (k : ℕ) → k < length_count s → kind_at s (field_count s + k) ≡ kind_l
  an-l-block k h = all-ordered.ls (field_count s + k) (omega arith) (omega arith)

  slot : ℕ → ℕ
  slot k = stated_slot (block_at s (field_count s + k))

  slot_small : (k : ℕ) → k < length_count s → slot k ≤ 2
  unfolding slot
  slot_small k h = slot-le _ (an-l-block k h) (parts.1 (field_count s + k) (omega (arith, all-ordered.all))).bytes

  slots_apart : (j k : ℕ) → j < k → k < length_count s → slot j ≡ slot k → ⊥
  unfolding slot
  slots_apart j k below h same =
      apart (field_count s + j) (field_count s + k) (omega arith) (omega (arith, all-ordered.all)) (an-l-block j (omega arith)) (an-l-block k h) same

  few-slots : length_count s ≤ 3
  few-slots =
      let few : length_count s < 4 = lt_of_not-le {n = 4} (λ m. omega (
        arith,
        slot_small 0 (omega arith),
        slot_small 1 (omega arith),
        slot_small 2 (omega arith),
        slot_small 3 m,
        slots_apart 0 1 (omega arith) (omega arith),
        slots_apart 0 2 (omega arith) (omega arith),
        slots_apart 0 3 (omega arith) m,
        slots_apart 1 2 (omega arith) (omega arith),
        slots_apart 1 3 (omega arith) m,
        slots_apart 2 3 (omega arith) m,
      )) in
      omega arith

  pub in_order : InOrder s
  in_order =
      record {
        whole = parts.0.0;
        most = parts.0.1;
        f-first = all-ordered.fs;
        l-next = all-ordered.ls;
        c-last = all-ordered.cs;
        no-others = all-ordered.all;
        most-fields = all-ordered.few-f;
        most-lengths = few-slots;
        most-conds = all-ordered.few-c;
        one_each = apart;
      }

  pub laid_out : (i : ℕ) → i < block_count s → layout_holds (block_at s i) ≡ true
  laid_out i h = (parts.1 i h).bytes

-- ---- and back

module _ (s : List ℕ) where
  -- where no block is of a kind none is counted; a block of the kind is one more than those before it
  count-nothing : (is_kind : ℕ → Bool) (n : ℕ) → ((i : ℕ) → i < n → is_kind (kind_at s i) ≡ false) → count is_kind s n ≡ 0
  unfolding count
  count-nothing is_kind zero h = refl
  count-nothing is_kind (suc n) h = rw (count-nothing is_kind n (λ i l. h i (omega arith)), h n (omega arith))

  count_past : (is_kind : ℕ → Bool) (i n : ℕ) → i < n → is_kind (kind_at s i) ≡ true → count is_kind s i < count is_kind s n
  unfolding count
  count_past is_kind i zero h e = absurd (omega arith)
  count_past is_kind i (suc n) h e =
      ⊎_elim (λ q. rw (← q, e) (omega arith)) (λ l. omega (arith, count_past is_kind i n l e)) (eq-or-lt_of_le {n = i} {m = n} (omega arith))

module _ (s : List ℕ) (a : InOrder s) where
  -- what stands before an F block and before an L block
  no-l-before : (i : ℕ) → i < field_count s → count is_l s i ≡ 0
  no-l-before i h = count-nothing s is_l i (λ j l. ap is_l (a.f-first j (omega arith)))

  no-c-before : (i : ℕ) → i < field_count s + length_count s → count is_c s i ≡ 0
  no-c-before i h = count-nothing s is_c i (λ j l. go j l (dec_lt j (field_count s)))
    where
      go : (j : ℕ) → j < i → Dec (j < field_count s) → is_c (kind_at s j) ≡ false
      go j l (yes f) = ap is_c (a.f-first j f)
      go j l (no f) = ap is_c (a.l-next j (omega arith) (omega arith))

  turn : (i : ℕ) → i < block_count s → ((is_f (kind_at s i) || is_l (kind_at s i) || is_c (kind_at s i)) ≡ true) × Turn s i
  turn i h = go (dec_lt i (field_count s)) (dec_lt i (field_count s + length_count s))
    where
      go : Dec (i < field_count s) → Dec (i < field_count s + length_count s) → ((is_f (kind_at s i) || is_l (kind_at s i) || is_c (kind_at s i)) ≡ true) × Turn s i
      go (yes f) d =
          let kind = a.f-first i f in
          (rw kind, omega (arith, no-l-before i f, no-c-before i (omega arith), count_past s is_f i (block_count s) h (ap is_f kind), a.most-fields))
      go (no f) (yes l) = let kind = a.l-next i (omega arith) l in (rw kind, omega (arith, no-c-before i l))
      go (no f) (no l) =
          let kind = a.c-last i (omega arith) h in
          (rw kind, omega (arith, count_past s is_c i (block_count s) h (ap is_c kind), a.most-conds))

module _ (s : List ℕ) (bytes : AreBytes s) where
  -- the tests of a block, said of its words and of what it states
  check-is : (i : ℕ) → i < block_count s → (check_holds (block_at s i) ≡ true) ↔ (ones_sum (words (block_at s i)) ≡ 65535)
  check-is i h = rw (check-block (block_at s i) (block-long s i h)) (eqb_is _ 65535)

  states-is : (i : ℕ) → i < block_count s → (layout_holds (block_at s i) ≡ true) ↔ ((d : Item) × WellFormed d × (take check_at (block_at s i) ≡ stated d))
  states-is i h = layout_is (block_at s i) (block-bytes s bytes i) (block-long s i h)

  sheet-passes : SheetIs s → sheet_check s ≡ accepted
  unfolding sheet_check
  sheet-passes a =
      let o = a.in_order in
      simp (both_is, refuse-is, sized-is, each-is, passed_is) (
        (o.whole, o.most),
        λ i h. record {
          check = (check-is i h).1 (a.checked i h);
          known = (turn s o i h).0;
          turn = (turn s o i h).1;
          bytes = (states-is i h).1 (a.laid_out i h);
          once = λ e j l p. o.one_each j i l h p.0 e p.1;
        },
      )

  pub sheet-is : (sheet_check s ≡ accepted) ↔ SheetIs s
  sheet-is = (
    λ ok. record { in_order = in_order s ok; checked = λ i h. (check-is i h).0 ((parts s ok).1 i h).check; laid_out = λ i h. (states-is i h).0 (laid_out s ok i h) },
    sheet-passes,
  )
