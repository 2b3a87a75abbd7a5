-- `build` meets its contract: the buffer's room decides. Assumes nothing.
use Rattle.std.proofs.Common.{◌≡◌, ap, arith}
use Rattle.answer.specs.declared.Group.{Group}
use Rattle.answer.specs.Paper.{refused}
use Rattle.header.specs.declared.Header.{Header}
use Rattle.header.specs.Step.{header_bytes}
use Rattle.definition.proofs.Steps.{whole-bytes}
use Rattle.template.proofs.Built.{built, built-no-room}
use Rattle.template.proofs.build.Goals as goal
use Rattle.template.proofs.build.Goals.{Start}

-- the length that is compared is the header's
long : (c : Start) → c.args.d.now.header.len.0 ≡ header_bytes c.args.d.now.sheet.now
long c = ap (λ (h : Header). h.len.0) c.args.d.now.header_is

pub returns-then-buf-d : goal.returns-then-buf-d
returns-then-buf-d c =
    let d = c.args.d.now in
    built-no-room d.sheet.now c.args.buf.now _ (ap (refused Group.Room 1) c.block_count-place.ensures) d.accepted (omega (arith, long (goal.at.returns-then-buf-d c).Start))

pub fill-requires : goal.fill-requires
fill-requires c = let d = c.args.d.now in omega (arith, long (goal.at.fill-requires c).Start, whole-bytes d.sheet.now d.accepted)

pub returns : goal.returns
returns c = let d = c.args.d.now in built d.sheet.now c.args.buf.now _ d.accepted (omega (arith, long (goal.at.returns c).Start)) c.fill.ensures
