-- `put_field` meets its contract: the line's words, one after another. Assumes nothing.
use Rattle.std.proofs.Common.{◌≡◌, Bool, true, false, cond, refl}
use Rattle.std.specs.Int.{from_bool}
use Rattle.text.proofs.Emit.{word, no_words, ended}
use Rattle.lines.specs.Lines.{field_line}
use Rattle.lines.proofs.put_field.Goals as goal

-- a flag is 1 where it holds, else 0
as-number : (b : Bool) → from_bool b ≡ cond b 1 0
as-number true = refl
as-number false = refl

pub returns : goal.returns
unfolding field_line
returns c =
    let made = c.new-at.ensures in
    ended _ _ _ c.put_bytes-p.ensures
    (word _ _ _ c.put_number-p.ensures
    (word _ _ _ (rw made at (rw c.byte_pos.ensures at c.put_number-p-2.ensures))
    (word _ _ _ (rw made at (rw c.bit_pos.ensures at c.put_number-p-3.ensures))
    (word _ _ _ c.put_number-p-4.ensures
    (word _ _ _ (rw c.to_string.ensures at c.put_word-p.ensures)
    (word _ _ _ (rw (c.from.ensures, as-number, c.need_write_guard.ensures) at c.put_number-p-5.ensures)
    (word _ _ _ c.put_word-p-2.ensures no_words)))))))
    c.put_byte.ensures
