-- `write_bytes` meets its contract: the bytes are copied where they lie as they have to. Assumes nothing.
use Rattle.std.proofs.Common.{refl, arith}
use Rattle.bits.proofs.Windows.{stored}
use Rattle.bits.proofs.write_bytes.Goals as goal

pub returns : goal.returns
returns c =
    let a = c.args in
    record {
      answer = c.in_ok-bytes_answer.ensures.answer;
      bytes = stored a.buf.now a.bytes.now a.from.0 _ (λ i. grind arith) (λ i. (c.type_inv.bytes i).fits) refl c.in_ok-bytes_answer.ensures.inside (omega arith) c.copy_in.ensures refl;
    }
