-- `Run::write` meets its contract: all of a short buffer, with the number pasted into it, stored; or the window of another. Assumes nothing.
use native.Mathlib.Omega.{arith}
use Rattle.bits.specs.Positions.{global_of}
use Rattle.bits.proofs.Windows.{window-written}
use Rattle.bits.proofs.Run.write.Goals as goal

pub returns-then-buf-lt8 : goal.returns-then-buf-lt8
returns-then-buf-lt8 c =
    let a = c.args in
    window-written a.buf.now (λ i. grind arith) (global_of a.self.start) a.self.width.0 0 (omega arith) (omega arith) c.be64.ensures
    a.v c.requires.v_bound (omega arith) (omega arith) c.paste-x.ensures c.store.ensures
