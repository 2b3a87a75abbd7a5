-- Laws of names: exactly when a lookup finds nothing, and exactly which field it finds; that a key not met before is that of a new name; and that
-- its answer is one. Assumes nothing.
use mathlib.Core.Path.{◌≡◌, sym, ◌∙◌}
use mathlib.Core.Bool.{Bool, true, false}
use mathlib.Core.List.{List}
use mathlib.Core.Logic.Iff
use mathlib.Core.Logic.{◌⊎◌, inl, inr, ◌↔◌}
use Rattle.std.specs.Prelude.{Some}
use Prim.Native.Nat.{ℕ, ◌+◌, ◌<◌}
use native.Mathlib.Nat.{eq-or-lt_of_le, mod-lt}
use native.Mathlib.Decide.{ℕ_discrete}
use native.Mathlib.Omega.{arith}
use lib.Dec.{lit<}
use lib.ListN.{length, replicate, get_or, set, length-replicate, length-set}
use lib.Seq.{get_or-set_same, get_or-set_other}
use Rattle.octets.proofs.Octets.{same-is, same-is-not}
use Rattle.sheet.specs.Blocks.{field_count}
use Rattle.header.specs.Names.{name_at, named_among, field_named}
use Rattle.header.specs.Working.{key_of}
use Rattle.answer.specs.Walk.{is_some}
use Rattle.answer.proofs.Walk.{where-at, where_found, where-nowhere, where-nothing, nowhere-is}

module _ (s name : List ℕ) where
  -- ---- nothing is found exactly where no field has the name

  pub none_named : (n : ℕ) → (is_some (named_among s name n) ≡ false) ↔ ((i : ℕ) → i < n → name_at s i ≡ name → ⊥)
  none_named n = simp (nowhere-is, same-is) Iff.rfl

  -- ---- field i is found exactly where it is the first that has the name

  pub record FirstNamed (i : ℕ) : Type 0 where
    pub there : i < field_count s
    pub has : name_at s i ≡ name
    pub before : (j : ℕ) → j < i → name_at s j ≡ name → ⊥

  pub found-is : (i : ℕ) → (field_named s name ≡ Some i) ↔ FirstNamed i
  found-is i = (
    λ e.
        let at = where_found _ (field_count s) i e in
        record { there = at.0; has = (same-is (name_at s i) name).0 at.1; before = λ j h. (same-is-not (name_at s j) name).0 (where-nowhere _ i at.2 j h) },
    λ f.
        where-at _ i (field_count s) f.there (where-nothing _ i (λ j h. (same-is-not (name_at s j) name).1 (f.before j h))) ((same-is (name_at s i) name).1 f.has),
  )

-- ---- keys: each field before i has its key marked

pub record Marked (s : List ℕ) (i : ℕ) (keys : List Bool) : Type 0 where
  pub size : length keys ≡ 256
  pub met : (j : ℕ) → j < i → get_or keys (key_of (name_at s j)) false ≡ true

pub key-small : (name : List ℕ) → key_of name < 256
unfolding key_of
key-small name = mod-lt _ (lit< tt)

pub marked-none : (s : List ℕ) → Marked s 0 (replicate 256 false)
marked-none s = record { size = length-replicate 256 false; met = λ j h. absurd (omega arith) }

pub marked_more : {s : List ℕ} {i k : ℕ} {keys : List Bool} → Marked s i keys → k ≡ key_of (name_at s i) → Marked s (i + 1) (set keys k true)
marked_more {s} {i} {k} {keys} m e = record { size = length-set keys k true ∙ m.size; met = λ j h. go j (ℕ_discrete (key_of (name_at s j)) k) (eq-or-lt_of_le {n = j} {m = i} (omega arith)) }
  where
    go : (j : ℕ) → Dec (key_of (name_at s j) ≡ k) → (j ≡ i) ⊎ (j < i) → get_or (set keys k true) (key_of (name_at s j)) false ≡ true
    go j (yes q) d = rw q (get_or-set_same keys k true false (omega (arith, e, key-small (name_at s i), m.size)))
    go j (no n) (inl q) = absurd (n (rw q (sym e)))
    go j (no n) (inr l) = get_or-set_other keys k (key_of (name_at s j)) true false n ∙ m.met j l

-- so a name whose key is not marked is none of theirs
pub unmarked : {s : List ℕ} (name : List ℕ) {i k : ℕ} {keys : List Bool} → Marked s i keys → k ≡ key_of name → get_or keys k false ≡ false → is_some (named_among s name i) ≡ false
unmarked {s} name {i} m e f = (none_named s name i).1 (λ j h q. let z : ◌≡◌ {A = ℕ} 0 1 = cc (m.met j h) in omega arith)
