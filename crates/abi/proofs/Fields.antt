-- Fields and conditions told in numbers: what the program makes of them is what is told of the sheet's. Assumes nothing.
use mathlib.Core.Path.{◌≡◌, sym, ap, ◌∙◌}
use mathlib.Core.Bool.{Bool, true, false}
use mathlib.Core.List.{List}
use Rattle.std.specs.Prelude.{Option, None, Some, Result, Ok, Err}
use Rattle.std.proofs.lemmas.Option.{same_Some}
use Prim.Native.Nat.{ℕ, suc, ◌+◌, ◌≤◌, ◌<◌}
use native.Mathlib.Decide.{dec_lt}
use borrow.Author.Tests.{lt-ltb, le-ltb}
use native.Mathlib.Omega.{arith}
use lib.ListN.{length}
use Rattle.answer.specs.declared.Refusal.{Refusal}
use Rattle.answer.specs.Paper.{gives, refusal_says, says}
use Rattle.answer.specs.Walk.{is_some}
use Rattle.answer.proofs.Chains.{given}
use Rattle.answer.proofs.Tests.{clash}
use Rattle.blocks.specs.Layout.{range_count}
use Rattle.blocks.proofs.Told.{few-ranges}
use Rattle.sheet.specs.Blocks.{block_at, field_count, length_count, cond_count}
use Rattle.sheet.specs.SheetIs.{InOrder}
use Rattle.sheet.proofs.SheetIs.{in_order, laid_out}
use Rattle.layout.specs.Access.{Value, write}
use Rattle.cond.specs.Step.{range_numbers}
use Rattle.cond.proofs.ConditionsAre.{conditions-are}
use Rattle.definition.specs.declared.CondEntry.{CondEntry}
use Rattle.definition.specs.Definition.{Accepted}
use Rattle.definition.specs.Unchecked.{entry_block, on_field, cond_entry}
use Rattle.definition.proofs.Steps.{five-steps}
use Rattle.header.specs.Names.{name_at, field_named}
use Rattle.locator.specs.declared.Locator.{Locator}
use Rattle.locator.specs.Locator.{reach_at, write_check_at, read_at, apply_at}
use Rattle.access.specs.Access.{sheet_reach, sheet_read, sheet_write_check, sheet_apply, locator_of, locator_check, locator_in}
use Rattle.access.proofs.BySheet.{locator-is, locator-given, locator-refused, reach-there, reach-refused, read-there, read-refused, write-check-there, apply-there, not_written}
use Rattle.abi.specs.Told.{zeros, Answered, Told, answer_in}
use Rattle.abi.specs.Numbers.{locator_numbers, locator_from, value_numbers, span_numbers, range_pair, cond_pair}
use Rattle.abi.proofs.Answers.{told_in, told_refused}
use Rattle.abi.proofs.SixNumbers.{locator-back}

-- an accepted sheet has at most 64 fields
pub few-fields : (s : List ℕ) → Accepted s → field_count s ≤ 64
few-fields s ok = (in_order s (five-steps s ok).sheet).most-fields

-- the locator of a sheet's field names one of 64
pub index-small : (s : List ℕ) (i : ℕ) {p : Locator} → locator_in s i ≡ gives p → p.index < 64
index-small s i {p} e =
    let found = given (locator_check s i) e in
    let there = (locator-is s i).0 found.0 in
    let small : i < 64 = omega (arith, there.1, few-fields s there.0) in
    rw (← found.1) small

-- ---- by the sheet

module _ (s : List ℕ) (i : ℕ) {q : Result Locator Refusal} (said : says q ≡ locator_in s i) where
  -- where its bytes stand is told at its locator
  pub span-there : (n : ℕ) (found : Result (List ℕ) Refusal) {p : Locator} {x why why' : List ℕ} {r : Bool} → q ≡ Ok p → says found ≡ answer_in (λ _. span_numbers p) (reach_at p n true)
      → Told (zeros 2) (λ l. l) (says found) x why why' r → Told (zeros 2) (λ _. span_numbers (locator_of s i)) (sheet_reach s n true i) x why why' r
  span-there n found {p} is span told =
      let there = locator-given s i said is in
      let same = ap (answer_in (λ _. span_numbers p)) (reach-there s i there n true) ∙ ap (λ (at : Locator). answer_in (λ _. span_numbers at) (sheet_reach s n true i)) (sym (given (locator_check s i) there).1) in
      told_in (λ _. span_numbers (locator_of s i)) (sheet_reach s n true i) (rw (span ∙ same) at told)

  pub span-refused : (n : ℕ) {reason : Refusal} {x why why' : List ℕ} {r : Bool} → q ≡ Err reason → Told (zeros 2) (λ l. l) (refusal_says reason) x why why' r
      → Told (zeros 2) (λ _. span_numbers (locator_of s i)) (sheet_reach s n true i) x why why' r
  span-refused n is told = told_refused _ (reach-refused s i (locator-refused s i said is) n true) told

  -- the number that it holds is read at the numbers of its locator
  pub number-there : (b : List ℕ) {p : Locator} {six x why why' : List ℕ} {r : Bool} → q ≡ Ok p → six ≡ locator_numbers p
      → Told (zeros 1) value_numbers (read_at (locator_from six) b false) x why why' r → Told (zeros 1) value_numbers (sheet_read s b false i) x why why' r
  number-there b {p} is numbers t = rw (← (read-there s i (locator-given s i said is) b false)) (rw (ap locator_from numbers ∙ locator-back p) at t)

  pub number-refused : (b : List ℕ) {reason : Refusal} {x why why' : List ℕ} {r : Bool} → q ≡ Err reason → Told (zeros 1) (λ l. l) (refusal_says reason) x why why' r
      → Told (zeros 1) value_numbers (sheet_read s b false i) x why why' r
  number-refused b is told = told_refused _ (read-refused s i (locator-refused s i said is) b false) told

  -- and written there
  pub write-there : (b : List ℕ) (v : Value) {p : Locator} {six b' why why' : List ℕ} {r : Bool} → q ≡ Ok p → six ≡ locator_numbers p
      → Answered (write_check_at (locator_from six) (length b) v) why why' r → b' ≡ apply_at (locator_from six) b v
      → Answered (sheet_write_check s (length b) (write i v)) why why' r × (b' ≡ sheet_apply s b (write i v))
  write-there b v {p} is numbers told after =
      let there = locator-given s i said is in
      let same = ap locator_from numbers ∙ locator-back p in
      (rw (← (write-check-there s i there (length b) v), ← same) told, rw (← (apply-there s i there b v), ← same) after)

  pub write-refused : (b : List ℕ) (v : Value) {reason : Refusal} {why why' : List ℕ} {r : Bool} → q ≡ Err reason → Answered {A = Unit {0}} (refusal_says reason) why why' r
      → Answered (sheet_write_check s (length b) (write i v)) why why' r × (b ≡ sheet_apply s b (write i v))
  write-refused b v {reason} is told =
      let None = not_written s b i v reason (locator-refused s i said is) in
      (rw None.answer at told, None.bytes)

-- ---- conditions

-- range j of an entry is its row j + 1
pub range-row : (s : List ℕ) (e : CondEntry) (j : ℕ) → cond_pair s e (j + 1) ≡ range_pair (range_numbers s e.block j)
range-row s e j = let next : j + 1 ≡ suc j = omega arith in ap (cond_pair s e) next

module _ (s : List ℕ) (ok : Accepted s) where
  pub few-conds : cond_count s ≤ 8
  few-conds = ((conditions-are s).0 (five-steps s ok).conds).most

  -- an entry is in a C block, which states at most 24 ranges
  pub entry-few : (k : ℕ) {e : CondEntry} → cond_entry s k ≡ Some e → e.ranges ≤ 24
  unfolding entry_block
  entry-few k {e} = by_count (dec_lt k (cond_count s))
    where
      blocks : InOrder s
      blocks = in_order s (five-steps s ok).sheet

      at : ℕ
      at = field_count s + length_count s + k

      few : k < cond_count s → range_count (block_at s at) ≤ 24
      few h = few-ranges (block_at s at) (blocks.c-last at (omega arith) (omega (arith, blocks.no-others))) (laid_out s (five-steps s ok).sheet at (omega (arith, blocks.no-others)))

      on-field : (f : Option ℕ) → k < cond_count s → on_field s at f ≡ Some e → e.ranges ≤ 24
      on-field (Some f) h is = rw (← (same_Some _ _ is)) (few h)
      on-field None h is = clash (ap is_some (sym is))

      by_count : Dec (k < cond_count s) → cond_entry s k ≡ Some e → e.ranges ≤ 24
      by_count (yes h) is = on-field (field_named s (name_at s at)) h (rw (lt-ltb k (cond_count s) h) at is)
      by_count (no h) is = clash (ap is_some (sym (rw (le-ltb k (cond_count s) (omega arith)) at is)))
