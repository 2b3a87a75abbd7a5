-- `Run::write_window` meets its contract: the 8 bytes that hold the run, with the number pasted into them, stored. Assumes nothing.
use mathlib.Core.Path.{◌∙◌}
use Prim.Native.Nat.{◌+◌, ◌-◌}
use native.Mathlib.Omega.{arith}
use Rattle.octets.proofs.Octets.{be-part}
use Rattle.bits.specs.Positions.{global_of}
use Rattle.bits.proofs.Windows.{window-written}
use Rattle.bits.proofs.Run.write_window.Goals as goal

pub returns : goal.returns
returns c =
    let f = c.window_at-f.result in
    let a = c.args in
    window-written a.buf.now (λ i. grind arith) (global_of a.self.start) a.self.width.0 f (omega arith) (omega arith)
    (c.be64-x.ensures ∙ be-part a.buf.now f (f + 8 - f) 8 (omega arith)) a.v c.requires.v_bound {n = 8} (omega arith) (omega arith)
    c.paste.ensures c.store.ensures
