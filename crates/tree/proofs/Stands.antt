-- A node stands for one tree: `stands_one`. And every tree stands at a node of some table: `some-table`, by a table with the root first and the children of
-- node k at 2 * k + 1 and 2 * k + 2. Assumes nothing.
use mathlib.Core.Path.{◌≡◌, refl}
use mathlib.Core.Bool.{cond}
use Prim.Native.Nat.{ℕ, zero, suc, ◌+◌, ◌*◌, ◌/◌, ◌%◌}
use native.Mathlib.Omega.{arith}
use lib.Dec.{eqb}
use borrow.Author.Tests.{eq-eqb, ne_eqb}
use Rattle.blocks.specs.declared.nodes.Node.{Node}
use Rattle.tree.specs.Tree.{NodeTable}
use Rattle.tree.specs.Stands.{AlgExpr, num, ident, add, sub, mul, div, Stands}

-- ---- one tree

module _ (at : NodeTable) where
  -- an operator over the trees of its children
  abbrev Over : (AlgExpr → AlgExpr → AlgExpr) → ℕ → ℕ → AlgExpr → Type 0
  Over op l r t = (u v : AlgExpr) × (t ≡ op u v) × Stands at (at l) u × Stands at (at r) v

  -- what the tree of a node is, by the node
  abbrev Told : Node → AlgExpr → Type 0
  Told (Node.Num n) t = t ≡ num n
  Told Node.Ident t = t ≡ ident
  Told (Node.Add l r) t = Over add l r t
  Told (Node.Sub l r) t = Over sub l r t
  Told (Node.Mul l r) t = Over mul l r t
  Told (Node.Div l r) t = Over div l r t

  told : (t : AlgExpr) (p : Node) → Stands at p t → Told p t
  unfolding Stands
  told (num n) p h = rw h refl
  told ident p h = rw h refl
  told (add t u) p h = rw h.2 (t, u, refl, h.3, h.4)
  told (sub t u) p h = rw h.2 (t, u, refl, h.3, h.4)
  told (mul t u) p h = rw h.2 (t, u, refl, h.3, h.4)
  told (div t u) p h = rw h.2 (t, u, refl, h.3, h.4)

  pub stands_one : (t u : AlgExpr) (p : Node) → Stands at p t → Stands at p u → t ≡ u
  unfolding Stands
  stands_one (num n) u p h k = let o = rw h at (told u p k) in cc
  stands_one ident u p h k = let o = rw h at (told u p k) in cc
  stands_one (add a b) u p h k = let o = rw h.2 at (told u p k) in cc (stands_one a o.0 (at h.0) h.3 o.3, stands_one b o.1 (at h.1) h.4 o.4)
  stands_one (sub a b) u p h k = let o = rw h.2 at (told u p k) in cc (stands_one a o.0 (at h.0) h.3 o.3, stands_one b o.1 (at h.1) h.4 o.4)
  stands_one (mul a b) u p h k = let o = rw h.2 at (told u p k) in cc (stands_one a o.0 (at h.0) h.3 o.3, stands_one b o.1 (at h.1) h.4 o.4)
  stands_one (div a b) u p h k = let o = rw h.2 at (told u p k) in cc (stands_one a o.0 (at h.0) h.3 o.3, stands_one b o.1 (at h.1) h.4 o.4)

-- ---- some table

-- a node whose children have moved
abbrev moved : (ℕ → ℕ) → Node → Node
moved to (Node.Num n) = Node.Num n
moved to Node.Ident = Node.Ident
moved to (Node.Add l r) = Node.Add (to l) (to r)
moved to (Node.Sub l r) = Node.Sub (to l) (to r)
moved to (Node.Mul l r) = Node.Mul (to l) (to r)
moved to (Node.Div l r) = Node.Div (to l) (to r)

-- where a whole table has moved, every node stands for the tree that it stood for
module _ (to : ℕ → ℕ) (at at' : NodeTable) (same : (k : ℕ) → at' (to k) ≡ moved to (at k)) where
  stays : (t : AlgExpr) (p : Node) → Stands at p t → Stands at' (moved to p) t
  unfolding Stands
  stays (num n) p h = rw h
  stays ident p h = rw h
  stays (add t u) p h = (to h.0, to h.1, rw h.2, rw same (stays t _ h.3), rw same (stays u _ h.4))
  stays (sub t u) p h = (to h.0, to h.1, rw h.2, rw same (stays t _ h.3), rw same (stays u _ h.4))
  stays (mul t u) p h = (to h.0, to h.1, rw h.2, rw same (stays t _ h.3), rw same (stays u _ h.4))
  stays (div t u) p h = (to h.0, to h.1, rw h.2, rw same (stays t _ h.3), rw same (stays u _ h.4))

-- two tables moved apart, below a root
abbrev to_left : ℕ → ℕ
to_left k = suc (2 * k)

abbrev to_right : ℕ → ℕ
to_right k = suc (2 * k + 1)

abbrev below : Node → NodeTable → NodeTable → NodeTable
below root left right zero = root
below root left right (suc k) = cond (eqb (k % 2) 0) (moved to_left (left (k / 2))) (moved to_right (right (k / 2)))

module _ (root : Node) (left right : NodeTable) where
  left-moved : (k : ℕ) → below root left right (to_left k) ≡ moved to_left (left k)
  left-moved k = let half : 2 * k / 2 ≡ k = omega arith in rw (eq-eqb (2 * k % 2) 0 (omega arith), half)

  right-moved : (k : ℕ) → below root left right (to_right k) ≡ moved to_right (right k)
  right-moved k = let half : (2 * k + 1) / 2 ≡ k = omega arith in rw (ne_eqb ((2 * k + 1) % 2) 0 (λ e. omega arith), half)

abbrev Rooted : AlgExpr → Type 0
Rooted t = (at : NodeTable) × Stands at (at 0) t

join : (op : AlgExpr → AlgExpr → AlgExpr) (node : ℕ → ℕ → Node)
    → ((at : NodeTable) (t u : AlgExpr) → Stands at (at 1) t → Stands at (at 2) u → Stands at (node 1 2) (op t u)) → (t u : AlgExpr) → Rooted t → Rooted u → Rooted (op t u)
join op node stands t u l r =
    let at = below (node 1 2) l.0 r.0 in (
      at,
      stands at t u
          (rw (left-moved (node 1 2) l.0 r.0 0) (stays to_left l.0 at (left-moved (node 1 2) l.0 r.0) t (l.0 0) l.1))
          (rw (right-moved (node 1 2) l.0 r.0 0) (stays to_right r.0 at (right-moved (node 1 2) l.0 r.0) u (r.0 0) r.1)),
    )

pub some-table : (t : AlgExpr) → (at : NodeTable) × Stands at (at 0) t
unfolding Stands
some-table (num n) = (λ _. Node.Num n, refl)
some-table ident = (λ _. Node.Ident, refl)
some-table (add t u) = join add Node.Add (λ at t u l r. (1, 2, refl, l, r)) t u (some-table t) (some-table u)
some-table (sub t u) = join sub Node.Sub (λ at t u l r. (1, 2, refl, l, r)) t u (some-table t) (some-table u)
some-table (mul t u) = join mul Node.Mul (λ at t u l r. (1, 2, refl, l, r)) t u (some-table t) (some-table u)
some-table (div t u) = join div Node.Div (λ at t u l r. (1, 2, refl, l, r)) t u (some-table t) (some-table u)
