-- What came joins what stood in front.
use Rattle.std.specs.Io.{ReadsAtMost}
use Rattle.std.specs.Io.KnownBytes.{Consumes, ReadConsumes}
use Rattle.std.proofs.Common.{◌-◌, rules, length, subst, sym, ap, ◌∙◌, Ok}
use Rattle.std.proofs.KnownBytes.{Consumes-trans}
use Rattle.streams.proofs.WhatCame.{heard-came}
use Rattle.streams.proofs.Parts.{take-put_mid}
use Rattle.streams.proofs.fill.Goals as goal

pub loop-n-preserved : goal.loop-n-preserved
loop-n-preserved g c =
    let from = c.loop-n.n in
    let read = heard-came c.read.result c.in-Some.came (sym c.hear.ensures ∙ c.in_ok-came.was ∙ ap Ok c.in-Some.is) in
    let bound = subst (λ r. ReadsAtMost r c.read.new.buf) read c.read.ensures.bound in
    let bytes = subst (λ r. ReadConsumes (g.R.Read.remaining c.loop-n.input) (g.R.Read.remaining c.read.new.self) r c.read.new.buf) read c.read.ensures.bytes in
    let joined = take-put_mid from (length c.loop-n.buf - from) c.in-Some.came c.loop-n.buf c.read.new.buf c.loop-n.invariant.1 bound.0 in
    (search rules, search rules, subst (Consumes _ _) joined (Consumes-trans _ _ _ _ _ c.loop-n.invariant.2 bytes.0))
