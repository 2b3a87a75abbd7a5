-- `Run::read` meets its contract: the run, cut out of all of a short buffer, or out of 8 bytes of a longer one. Assumes nothing.
use native.Mathlib.Omega.{arith}
use Rattle.bits.specs.Positions.{global_of}
use Rattle.bits.proofs.Windows.{window-read}
use Rattle.bits.proofs.Run.read.Goals as goal

pub returns-then-buf-lt8 : goal.returns-then-buf-lt8
returns-then-buf-lt8 c =
    let a = c.args in
    window-read a.buf.now (λ i. (c.type_inv.buf i).fits) (global_of a.self.start) a.self.width.0 0 (omega arith) (omega arith) c.be64.ensures (omega arith) c.cut.ensures

pub returns : goal.returns
returns c = c.read_window.ensures
