-- `checksum::hashlittle` meets its contract. Assumes nothing.
use Rattle.std.proofs.Common.{◌-◌, ◌/◌, length, ap, ◌∙◌, arith}
use Rattle.checksum.specs.Lookup3.{blocks}
use Rattle.checksum.specs.declared.Words.{Words}
use Rattle.checksum.proofs.Lookup3.{of_none, begun}
use Rattle.checksum.proofs.hashlittle.Goals as goal

pub returns-then-s-eq0 : goal.returns-then-s-eq0
returns-then-s-eq0 c =
    let a = c.args in
    ap (λ (w : Words). w.c) c.start-w.ensures ∙ of_none a.s.now a.initval c.if-s-eq0.true

pub returns : goal.returns
returns c =
    let a = c.args in
    let s = a.s.now in
    c.hash_from.ensures ∙ ap (λ (w : Words). blocks ((length s - 1) / 12) w s) c.start-w.ensures ∙ begun s a.initval (omega arith)
