-- `Run::read_window` meets its contract: the run, cut out of 8 bytes that hold it. Assumes nothing.
use mathlib.Core.Path.{◌∙◌}
use Prim.Native.Nat.{◌+◌, ◌-◌}
use native.Mathlib.Omega.{arith}
use Rattle.octets.proofs.Octets.{be-part}
use Rattle.bits.specs.Positions.{global_of}
use Rattle.bits.proofs.Windows.{window-read}
use Rattle.bits.proofs.Run.read_window.Goals as goal

pub returns : goal.returns
returns c =
    let f = c.window_at-f.result in
    let a = c.args in
    window-read a.buf.now (λ i. (c.type_inv.buf i).fits) (global_of a.self.start) a.self.width.0 f (omega arith) (omega arith)
    (c.be64-x.ensures ∙ be-part a.buf.now f (f + 8 - f) 8 (omega arith)) (omega arith) c.cut.ensures
