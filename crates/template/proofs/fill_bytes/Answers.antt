-- `fill_bytes` meets its contract: zeros are what no bytes spell, and stated bytes are as many as the run has. Assumes nothing.
use mathlib.Core.Path.{◌≡◌, sym, ap, ◌∙◌}
use mathlib.Core.Logic.{⊎_elim}
use Prim.Native.Nat.{◌+◌, ◌*◌}
use native.Mathlib.Omega.{arith}
use lib.Seq.{length-slice}
use Rattle.bits.specs.Writes.{put}
use Rattle.bits.proofs.Writes.{bytes-put}
use Rattle.template.proofs.Filling.{none-stated, stated-filled}
use Rattle.template.proofs.fill_bytes.Goals as goal

pub returns-then-span-eq0 : goal.returns-then-span-eq0
returns-then-span-eq0 c =
    let a = c.args in
    bytes-put c.requires.count_in_bounds (omega arith) c.clear_bytes.ensures
    ∙ ap (put a.buf.now (8 * a.from.0) (8 * a.count.0)) (sym (none-stated a.b.now a.span.at a.span.len (omega arith)))

pub returns-else-span-eq0 : goal.returns-else-span-eq0
returns-else-span-eq0 c =
    let a = c.args in
    let stated : a.span.len ≡ a.count.0 = ⊎_elim (λ e. e) (λ e. omega arith) c.requires.fact in
    stated-filled c.part.ensures
    (length-slice a.span.at (a.span.at + a.span.len) a.b.now c.requires.len_in_bounds ∙ omega arith) c.requires.count_in_bounds c.write_bytes.ensures
