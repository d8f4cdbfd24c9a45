use Rattle.std.proofs.Common.{refl, ◌∙◌, arith}
use Rattle.records.specs.Headers.{header-cut, header-record}
use Rattle.records.proofs.kinds.record_at.Goals as goal

pub returns-then-bytes-place : goal.returns-then-bytes-place
returns-then-bytes-place g c = let laws = g.met.P.Part in
    header-cut _ _ (λ i. (c.type_inv.bytes i).fits) g.P.Part.kind laws.known refl c.requires.head
    (omega (arith, c.LENGTH.ensures, laws.long, c.if-bytes-place.true))

pub returns : goal.returns
returns g c = let laws = g.met.P.Part in
    let length = c.LENGTH-2.ensures ∙ laws.long in
    rw (← length) at
    (header-record _ _ (λ i. (c.type_inv.bytes i).fits) g.P.Part.kind laws.known refl c.requires.head
    (omega (arith, c.LENGTH.ensures, laws.long, c.if-bytes-place.false)) (rw length at c.read.ensures))
