-- `put_hex_word` meets its contract. Assumes nothing.
use Rattle.std.proofs.Common.{sym, ◌∙◌}
use borrow.Author.Tests.{eqb-true, eqb-false}
use Rattle.lines.proofs.Words.{no-hex, some-hex}
use Rattle.lines.proofs.put_hex_word.Goals as goal

pub returns-then-is_empty : goal.returns-then-is_empty
returns-then-is_empty c = no-hex c.args.bytes.now (eqb-true _ _ (sym c.is_empty.ensures ∙ c.if-is_empty.true))

pub returns : goal.returns
returns c =
    some-hex c.args.bytes.now _ (eqb-false _ _ (sym c.is_empty.ensures ∙ c.if-is_empty.false)) c.put_byte-p.ensures c.put_hex.ensures
