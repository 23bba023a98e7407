use Rattle.std.proofs.Common.{ℤ, List, subst, sym}
use Rattle.std.specs.Prelude.{All}
use Rattle.std.proofs.lemmas.Result.{IfOk-weaker}
use Rattle.mintc_certificate.specs.declared.certificate.Certificate.{Certificate}
use Rattle.mintc_certificate.specs.declared.members.Member.{Member}
use Rattle.mintc_certificate.specs.Ranges.{IsCertificateInRange}
use Rattle.mintc_certificate.specs.Valid.{IsMember, IsValid}
use Rattle.mintcx_chain.specs.Rows.{IsClocked}
use Rattle.mintcx_csv.specs.Chains.{IsLeastTable, IsOptimumTable}
use Rattle.mintcx_optima.proofs.SharedOptimumLaws.{clocked, members_of_least, members_of_never}
use Rattle.mintcx_csv.proofs.optimum.optimum_csv.Goals as goal

pub least_csv-requires-clause-clocked : goal.least_csv-requires-clause-clocked
least_csv-requires-clause-clocked c =
    let t = c.args.system.now in
    let s = c.in-Least.schedule in
    subst (λ (d : List ℤ). IsClocked t.flat s d) (sym c.items.ensures)
    (clocked t s c.in-Least.departures c.in-Least.chain (subst (IsValid t) c.in-Least.is c.requires.valid) (subst IsCertificateInRange c.in-Least.is c.requires.in_range))

pub least_csv-requires-clause-members : goal.least_csv-requires-clause-members
least_csv-requires-clause-members c =
    let t = c.args.system.now in
    subst (λ (chain : List Member). All (IsMember t) chain) (sym c.items-in-Least.ensures)
    (members_of_least t c.in-Least.schedule c.in-Least.departures c.in-Least.chain (subst (IsValid t) c.in-Least.is c.requires.valid))

pub never_csv-requires-clause-members : goal.never_csv-requires-clause-members
never_csv-requires-clause-members c =
    let t = c.args.system.now in
    subst (λ (chain : List Member). All (IsMember t) chain) (sym c.items-in-Never.ensures)
    (members_of_never t c.in-Never.chain (subst (IsValid t) c.in-Never.is c.requires.valid))

pub returns-in-Least : goal.returns-in-Least
returns-in-Least c =
    let design = c.args.system.now.flat in
    let s = c.in-Least.schedule in
    let d = c.in-Least.departures in
    IfOk-weaker c.least_csv.result _ _
    (λ text e. subst (λ (x : Certificate). IsOptimumTable design x text) (sym c.in-Least.is)
    (subst (λ (chain : List Member). IsLeastTable design s d chain text) c.items-in-Least.ensures
    (subst (λ (x : List ℤ). IsLeastTable design s x c.items-in-Least.result.now text) c.items.ensures e)))
    c.least_csv.ensures
