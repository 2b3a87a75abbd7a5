-- `put_refusal` meets its contract: the line's words, one after another; what is on paper is what the refusal says. Assumes nothing.
use mathlib.Core.Path.{ap, ◌∙◌}
use Rattle.text.proofs.Emit.{word, no_words, ended}
use Rattle.text.specs.Output.{emit}
use Rattle.answer.specs.declared.OnPaper.{OnPaper}
use Rattle.answer.proofs.OneToOne.{on-paper-one}
use Rattle.lines.specs.Lines.{refusal_line}
use Rattle.lines.proofs.put_refusal.Goals as goal

pub returns : goal.returns
unfolding refusal_line
returns c =
    let a = c.args in
    let is = on-paper-one c.on_paper-paper.result _ c.on_paper-paper.ensures in
    ended _ _ _ c.put_bytes-p.ensures
    (word _ _ _ (rw c.group_word.ensures at c.put_word-p.ensures)
    (word _ _ _ c.put_number-p.ensures
    (word _ _ _ c.put_number-p-2.ensures no_words)))
    c.put_byte.ensures
    ∙ ap (λ (q : OnPaper). emit (refusal_line q.group q.number q.place) (a.out.now, a.to)) is
