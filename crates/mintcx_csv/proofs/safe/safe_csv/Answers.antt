use Rattle.std.proofs.Common.{ℤ, List, subst, sym}
use Rattle.std.specs.Prelude.{All}
use Rattle.std.proofs.lemmas.Result.{IfOk-weaker}
use Rattle.mintc_safe.specs.declared.certificate.SafeCertificate.{SafeCertificate}
use Rattle.mintc_safe.specs.declared.members.SafeMember.{SafeMember}
use Rattle.mintc_safe.specs.SafeOptimum.{IsSafeChainInRange, IsSafeInRange, IsSafeMember, IsSafeValid}
use Rattle.mintcx_chain.specs.Rows.{IsClocked}
use Rattle.mintcx_optima.proofs.SharedOptimumLaws.{safe_clocked, safe_members_of_least, safe_members_of_never}
use Rattle.mintcx_csv.specs.Safe.{IsSafeLeastTable, IsSafeNeverTable, IsSafeTable}
use Rattle.mintcx_csv.proofs.safe.safe_csv.Goals as goal

pub least_csv-requires-clause-clocked : goal.least_csv-requires-clause-clocked
least_csv-requires-clause-clocked c =
    let t = c.args.system.now in
    let s = c.in-Least.schedule in
    subst (λ (d : List ℤ). IsClocked t.flat s d) (sym c.items.ensures)
    (safe_clocked t s c.in-Least.departures c.in-Least.chain (subst (IsSafeValid t) c.in-Least.is c.requires.valid) (subst IsSafeInRange c.in-Least.is c.requires.in_range))

pub least_csv-requires-clause-chain : goal.least_csv-requires-clause-chain
least_csv-requires-clause-chain c = subst IsSafeChainInRange (sym c.items-in-Least.ensures) (subst IsSafeInRange c.in-Least.is c.requires.in_range).chain_in

pub least_csv-requires-clause-members : goal.least_csv-requires-clause-members
least_csv-requires-clause-members c =
    let t = c.args.system.now in
    subst (λ (chain : List SafeMember). All (IsSafeMember t) chain) (sym c.items-in-Least.ensures)
    (safe_members_of_least t c.in-Least.schedule c.in-Least.departures c.in-Least.chain (subst (IsSafeValid t) c.in-Least.is c.requires.valid))

pub never_csv-requires-clause-chain : goal.never_csv-requires-clause-chain
never_csv-requires-clause-chain c = subst IsSafeChainInRange (sym c.items-in-Never.ensures) (subst IsSafeInRange c.in-Never.is c.requires.in_range)

pub never_csv-requires-clause-members : goal.never_csv-requires-clause-members
never_csv-requires-clause-members c =
    let t = c.args.system.now in
    subst (λ (chain : List SafeMember). All (IsSafeMember t) chain) (sym c.items-in-Never.ensures)
    (safe_members_of_never t c.in-Never.chain (subst (IsSafeValid t) c.in-Never.is c.requires.valid))

pub returns-in-Least : goal.returns-in-Least
returns-in-Least c =
    let design = c.args.system.now.flat in
    let s = c.in-Least.schedule in
    IfOk-weaker c.least_csv.result _ _
    (λ text e. subst (λ (x : SafeCertificate). IsSafeTable design x text) (sym c.in-Least.is)
    (subst (λ (x : List ℤ). IsSafeLeastTable design s x c.in-Least.chain text) c.items.ensures
    (subst (λ (chain : List SafeMember). IsSafeLeastTable design s c.items.result.now chain text) c.items-in-Least.ensures e)))
    c.least_csv.ensures

pub returns-in-Never : goal.returns-in-Never
returns-in-Never c =
    let design = c.args.system.now.flat in
    IfOk-weaker c.never_csv.result _ _
    (λ text e. subst (λ (x : SafeCertificate). IsSafeTable design x text) (sym c.in-Never.is)
    (subst (λ (chain : List SafeMember). IsSafeNeverTable design chain text) c.items-in-Never.ensures e))
    c.never_csv.ensures
