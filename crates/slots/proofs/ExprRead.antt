-- What step 4 reads of a block that states a length is what the block states: `expr-read`. The layout reads form, numbers and nodes back (`read_back`).
-- Assumes nothing.
use mathlib.Core.Path.{◌≡◌, ap}
use mathlib.Core.List.{List}
use Prim.Native.Nat.{ℕ, ◌-◌}
use native.Mathlib.Omega.{arith}
use lib.ListN.{length, take}
use borrow.Author.Tests.{lt-ltb}
use Rattle.octets.specs.Octets.{AreBytes}
use Rattle.blocks.specs.Layout.{block_size, check_at}
use Rattle.expr.specs.declared.UsableAlgExpr.{UsableAlgExpr}
use Rattle.stated.specs.Items.{LengthItem, undefined, as_form, as_tree, length_item, WellFormed}
use Rattle.stated.specs.Stated.{stated}
use Rattle.stated.specs.ReadBack.{LengthReadBack}
use Rattle.stated.proofs.Laws.{read_back}
use Rattle.slots.specs.Slots.{expr_in}
use Rattle.slots.specs.ExprRead.{ExprRead}

module _ (b : List ℕ) (slot : ℕ) where
  form-read : (name : List ℕ) (e : UsableAlgExpr) → LengthReadBack b slot (as_form name e) → ExprRead b (as_form name e)
  unfolding expr_in
  form-read name UsableAlgExpr.IdentOnly r = rw r.form
  form-read name (UsableAlgExpr.SimpleAdd a) r = rw (r.form, r.first)
  form-read name (UsableAlgExpr.SimpleMult m) r = rw (r.form, r.first)
  form-read name (UsableAlgExpr.AddMult a m) r = rw (r.form, r.first, r.second)
  form-read name (UsableAlgExpr.MultAdd m a) r = rw (r.form, r.first, r.second)

  item-read : (l : LengthItem) → WellFormed (length_item slot l) → LengthReadBack b slot l → ExprRead b l
  unfolding expr_in
  item-read undefined good r = rw r.form
  item-read (as_form name e) good r = form-read name e r
  item-read (as_tree name nodes) good r = (
    rw r.form,
    ap (λ n. n - 1) r.count,
    λ k h. rw (lt-ltb k 32 (omega (arith, good.1.1.few))) (r.nodes k (omega (arith, r.count))),
  )

  pub expr-read : AreBytes b → length b ≡ block_size → (l : LengthItem) → WellFormed (length_item slot l) → take check_at b ≡ stated (length_item slot l) → ExprRead b l
  expr-read bytes long l good says = item-read l good (read_back b bytes long (length_item slot l) good says)
