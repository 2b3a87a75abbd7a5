-- `clear_bytes` meets its contract: zeros spell 0. Assumes nothing.
use Rattle.std.proofs.Common.{◌∙◌, ap, replicate, length-take, length-drop, lit<, arith, ℕ}
use Rattle.std.proofs.lemmas.List.{length-replicate}
use Rattle.octets.proofs.Octets.{zeros}
use Rattle.bits.proofs.Windows.{stored, spelled-zeros}
use Rattle.bits.proofs.clear_bytes.Goals as goal

pub returns : goal.returns
returns c =
    let a = c.args in
    record {
      answer = c.in_ok-bytes_answer.ensures.answer;
      bytes = stored a.buf.now (replicate a.count.0 0) a.from.0 a.count.0 (λ i. grind arith) (λ i. rw (zeros a.count.0 i) (lit< tt)) (length-replicate _ _) c.in_ok-bytes_answer.ensures.inside (omega arith)
          (c.fill.ensures.after (λ y e. e) ∙ ap (λ (n : ℕ). replicate n 0) (simp (length-take, length-drop) (omega (arith, c.in_ok-bytes_answer.ensures.inside)))) (spelled-zeros a.count.0);
    }
