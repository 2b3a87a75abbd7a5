-- `chunk` meets its contract: where not all N bytes are there, zeros stand for those that are not. Assumes nothing.
use Rattle.std.proofs.Common.{◌∙◌, ap, length, length-take-le}
use Rattle.octets.proofs.Octets.{be-whole, be-padded}
use Rattle.octets.proofs.chunk.Goals as goal

pub returns-in-Some : goal.returns-in-Some
returns-in-Some row c = (ap length c.in-Some.ensures.cases.same ∙ length-take-le _ _ c.in-Some.ensures.cases.enough, be-whole c.args.s.now c.args.at _ c.part_from-t.ensures c.in-Some.ensures.cases.same)

pub returns-in-None : goal.returns-in-None
returns-in-None row c = (c.padded.ensures.0, be-padded c.args.s.now _ c.args.at _ c.part_from-t.ensures c.padded.ensures.1)
