use Rattle.std.proofs.Common.{ℤ, List, subst, sym}
use Rattle.std.specs.Prelude.{All}
use Rattle.mintc_certificate.specs.declared.members.Member.{Member}
use Rattle.mintc_certificate.specs.Ranges.{IsCertificateInRange}
use Rattle.mintc_certificate.specs.Valid.{IsMember, IsValid}
use Rattle.mintcx_chain.specs.Rows.{IsClocked}
use Rattle.mintcx_optima.proofs.SharedOptimumLaws.{clocked, members_of_least, members_of_never}
use Rattle.mintcx_optima.proofs.optimum.optimum_text.Goals as goal

pub least_of-requires-clause-clocked : goal.least_of-requires-clause-clocked
least_of-requires-clause-clocked c =
    let t = c.args.system.now in
    let s = c.in-Least.schedule in
    subst (λ (d : List ℤ). IsClocked t.flat s d) (sym c.items.ensures)
    (clocked t s c.in-Least.departures c.in-Least.chain (subst (IsValid t) c.in-Least.is c.requires.valid) (subst IsCertificateInRange c.in-Least.is c.requires.in_range))

pub least_of-requires-clause-members : goal.least_of-requires-clause-members
least_of-requires-clause-members c =
    let t = c.args.system.now in
    subst (λ (chain : List Member). All (IsMember t) chain) (sym c.items-in-Least.ensures)
    (members_of_least t c.in-Least.schedule c.in-Least.departures c.in-Least.chain (subst (IsValid t) c.in-Least.is c.requires.valid))

pub never_of-requires-clause-members : goal.never_of-requires-clause-members
never_of-requires-clause-members c =
    let t = c.args.system.now in
    subst (λ (chain : List Member). All (IsMember t) chain) (sym c.items-in-Never.ensures)
    (members_of_never t c.in-Never.chain (subst (IsValid t) c.in-Never.is c.requires.valid))
