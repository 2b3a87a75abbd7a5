-- `put_text` meets its contract: by the answer to the template, whose bytes are then in front of the buffer. Assumes nothing.
use mathlib.Core.Path.{sym, ap, ◌∙◌}
use mathlib.Core.List.{List}
use Prim.Native.Nat.{ℕ}
use Rattle.std.specs.Prelude.{Some}
use Rattle.text.specs.Output.{emit}
use Rattle.listing.proofs.Told.{zero-bytes, built-front, text-accepted, text-refused}
use Rattle.listing.proofs.put_text.Goals as goal

pub put_listing-requires : goal.put_listing-requires
put_listing-requires c = rw c.in-Ok.ensures.0 (built-front c.args.s.now (zero-bytes 8192) c.in-Ok.ensures.1)

pub returns-in-Ok : goal.returns-in-Ok
returns-in-Ok c =
    let a = c.args in
    c.put_listing.ensures ∙ ap (λ (t : List ℕ). emit t (a.out.now, Some 0)) (rw c.in-Ok.ensures.0 (text-accepted a.s.now (sym c.in-Ok.ensures.1.answer)))

pub returns-in-Err : goal.returns-in-Err
returns-in-Err c =
    let a = c.args in
    c.put_refusal.ensures ∙ ap (λ (t : List ℕ). emit t (a.out.now, Some 0)) (text-refused a.s.now c.in-Err.reason c.in-Err.ensures.answer)
