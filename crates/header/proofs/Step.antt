-- Step 3 in the cases that `Header::new` meets. Assumes nothing.
use mathlib.Core.Path.{◌≡◌}
use mathlib.Core.Bool.{not}
use mathlib.Core.List.{List}
use Prim.Native.Nat.{ℕ, ◌/◌, ◌%◌, ◌<◌}
use lib.Dec.{eqb}
use Rattle.answer.specs.declared.Group.{Group}
use Rattle.answer.specs.Paper.{gives, refused, accepted, refuse, first}
use Rattle.answer.proofs.Chains.{stand, first-stop}
use Rattle.sheet.specs.Blocks.{block_count, field_count}
use Rattle.header.specs.Starts.{start_at}
use Rattle.header.specs.Step.{header_fault, header_check, new_header}

-- ---- all fields

-- the first field that is refused
pub new-stops : (s : List ℕ) (i : ℕ) {g : Group} {n at : ℕ} → i < field_count s → first (header_fault s) i ≡ accepted → header_fault s i ≡ refused g n at → new_header s ≡ refused g n at
unfolding header_check
new-stops s i h before e = stand _ (stand _ (first-stop (header_fault s) i (field_count s) h before e))

-- past all fields header 6 decides
module _ (s : List ℕ) (i : ℕ) {bits : ℕ} (all : i ≡ field_count s) (ok : first (header_fault s) i ≡ accepted) (sum : bits ≡ start_at s i) where
  pub last-decides : header_check s ≡ refuse (not (eqb (bits % 8) 0)) Group.Header 6 (block_count s)
  unfolding header_check
  last-decides = rw (← all, ok, ← sum)

  pub new-given : {n len : ℕ} → header_check s ≡ accepted → n ≡ field_count s → len ≡ bits / 8 → gives (record { fields = n; len = record { 0 = len } }) ≡ new_header s
  new-given e p q = rw (e, p, q, ← all, ← sum)
