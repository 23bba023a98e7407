use Rattle.std.proofs.Common.{ℤ, List, subst, sym}
use Rattle.std.specs.Prelude.{All}
use Rattle.std.specs.Result.{IfOk}
use Rattle.mintc_certificate.specs.declared.certificate.Certificate.{Certificate}
use Rattle.mintc_certificate.specs.declared.members.Member.{Member}
use Rattle.mintc_certificate.specs.Ranges.{IsCertificateInRange}
use Rattle.mintc_certificate.specs.Valid.{IsMember, IsValid}
use Rattle.mintcx_chain.specs.Rows.{IsClocked}
use Rattle.mintcx_draw.specs.Drawings.{IsDrawnOf, IsLeastDrawn}
use Rattle.mintcx_draw.proofs.ChainLaws.{clocked, members_of_least}
use Rattle.mintcx_draw.proofs.drawing.draw.Goals as goal

pub least_drawn-requires-clause-clocked : goal.least_drawn-requires-clause-clocked
least_drawn-requires-clause-clocked c =
    let t = c.args.system.now in
    let s = c.in-Least.schedule in
    subst (λ (d : List ℤ). IsClocked t.flat s d) (sym c.items.ensures)
    (clocked t s c.in-Least.departures c.in-Least.chain (subst (IsValid t) c.in-Least.is c.requires.valid) (subst IsCertificateInRange c.in-Least.is c.requires.in_range))

pub least_drawn-requires-clause-members : goal.least_drawn-requires-clause-members
least_drawn-requires-clause-members c =
    let t = c.args.system.now in
    subst (λ (chain : List Member). All (IsMember t) chain) (sym c.items-in-Least.ensures)
    (members_of_least t c.in-Least.schedule c.in-Least.departures c.in-Least.chain (subst (IsValid t) c.in-Least.is c.requires.valid))

pub returns-in-Least-clause-of : goal.returns-in-Least-clause-of
returns-in-Least-clause-of c =
    let flat = c.args.system.now.flat in
    let s = c.in-Least.schedule in
    let drawn = c.least_drawn.result in
    subst (λ (x : Certificate). IfOk drawn (IsDrawnOf flat x)) (sym c.in-Least.is)
    (subst (λ (ds : List ℤ). IfOk drawn (IsLeastDrawn flat s ds c.in-Least.chain)) c.items.ensures
    (subst (λ (ms : List Member). IfOk drawn (IsLeastDrawn flat s c.items.result.now ms)) c.items-in-Least.ensures c.least_drawn.ensures))
