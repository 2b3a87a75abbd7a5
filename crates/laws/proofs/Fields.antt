-- The fields of an accepted sheet are those of its layout: the same bits, the same contents, the same writes allowed. Assumes nothing.
use mathlib.Core.Path.{◌≡◌, sym, ap, ◌∙◌}
use mathlib.Core.Bool.{Bool}
use mathlib.Core.List.{List}
use mathlib.Core.Logic.{◌↔◌}
use Prim.Native.Nat.{ℕ, ◌<◌}
use native.Mathlib.Omega.{arith}
use Rattle.sheet.specs.Blocks.{field_count}
use Rattle.layout.specs.Layout.{HeaderField, In, content}
use Rattle.layout.specs.Access as access
use Rattle.layout.specs.Access.{of_bytes, Write}
use Rattle.header.specs.Starts.{header_layout}
use Rattle.header.proofs.Starts.{layout-length, layout-field}
use Rattle.definition.specs.Definition.{Accepted}
use Rattle.definition.proofs.Steps.{layout-whole}
use Rattle.access.proofs.Locators.{start_is, width_is}
use Rattle.laws.specs.Fields.{OfField, holds, SheetAllowed, SheetReachable}

module _ (s : List ℕ) (ok : Accepted s) where
  pub holds-is : (i : ℕ) → i < field_count s → (b : List ℕ) → content (header_layout s) b i ≡ holds s b i
  holds-is i h b = rw (start_is s i h, width_is s i h)

  pub of-field-is : (i k : ℕ) → In (header_layout s) i k ↔ OfField s i k
  of-field-is i k = (
    λ p. let h : i < field_count s = rw (layout-length s) at p.there in
        record { there = h; from = rw (start_is s i h) at p.from; to = rw (start_is s i h, width_is s i h) at p.to },
    λ p. record {
      there = rw (layout-length s) p.there;
      from = rw (start_is s i p.there) p.from;
      to = rw (start_is s i p.there, width_is s i p.there) p.to;
    },
  )

  pub readable-is : (n : ℕ) (as_bytes : Bool) (i : ℕ) → access.Reachable (header_layout s) n as_bytes i ↔ SheetReachable s n as_bytes i
  readable-is n as_bytes i = (
    λ r. let h : i < field_count s = rw (layout-length s) at r.there in
        record { there = h; long = omega (arith, r.long, layout-whole s ok); kind = r.kind ∙ ap (λ (x : HeaderField). x.is_bytes) (layout-field s i h) },
    λ r. record {
      there = rw (layout-length s) r.there;
      long = omega (arith, r.long, layout-whole s ok);
      kind = r.kind ∙ sym (ap (λ (x : HeaderField). x.is_bytes) (layout-field s i r.there));
    },
  )

  pub allowed-is : (n : ℕ) (w : Write) → access.Allowed (header_layout s) n w ↔ SheetAllowed s n w
  allowed-is n w = (
    λ a. let r = (readable-is n (of_bytes w.value) w.index).0 a.reached in
        let f = layout-field s w.index r.there in
        record {
          there = r.there;
          long = r.long;
          kind = r.kind;
          size = rw (width_is s w.index r.there) at a.size;
          free = λ e. a.free (ap (λ (x : HeaderField). x.fixed) f ∙ e) ∙ ap (λ (x : HeaderField). x.default) f;
        },
    λ a. let f = layout-field s w.index a.there in
        record {
          reached = (readable-is n (of_bytes w.value) w.index).1 (record { there = a.there; long = a.long; kind = a.kind });
          size = rw (width_is s w.index a.there) a.size;
          free = λ e. a.free (sym (ap (λ (x : HeaderField). x.fixed) f) ∙ e) ∙ sym (ap (λ (x : HeaderField). x.default) f);
        },
  )
