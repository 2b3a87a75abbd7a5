-- `store` meets its contract: the upper bytes of the number are its upper bits. Assumes nothing.
use Rattle.std.proofs.Common.{ap, ◌∙◌, take, length-take, arith}
use Rattle.std.specs.Int.{w64, to_be_bytes}
use Rattle.octets.proofs.Octets.{bytes_take}
use Rattle.bits.proofs.Windows.{stored, bytes_of, first-bytes}
use Rattle.bits.proofs.store.Goals as goal

pub returns : goal.returns
returns c =
    let a = c.args in
    stored a.buf.now (take a.count (to_be_bytes w64 a.x)) a.from a.count (λ i. grind arith) (bytes_take a.count _ (bytes_of 8 a.x)) (simp length-take (omega arith)) (omega arith)
    (omega arith) (c.copy_from_slice.ensures.after ∙ ap (take a.count) c.to_be_bytes.ensures) (first-bytes a.x a.count (omega arith) (omega arith))
