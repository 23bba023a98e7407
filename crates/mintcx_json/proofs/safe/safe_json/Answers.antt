use Rattle.std.proofs.Common.{ℕ, ℤ, List, [], subst, sym}
use Rattle.std.specs.Prelude.{All}
use Rattle.std.proofs.lemmas.Result.{IfOk-weaker}
use Rattle.mintc_safe.specs.declared.certificate.SafeCertificate.{SafeCertificate}
use Rattle.mintc_safe.specs.declared.members.SafeMember.{SafeMember}
use Rattle.mintc_safe.specs.SafeOptimum.{IsSafeChainInRange, IsSafeInRange, IsSafeMember, IsSafeValid}
use Rattle.mintcx_chain.specs.Rows.{IsClocked}
use Rattle.mintcx_optima.specs.Safe.{AreSafeStages}
use Rattle.mintcx_optima.proofs.SharedOptimumLaws.{safe_clocked, safe_members_of_least, safe_members_of_never}
use Rattle.mintcx_json.specs.Objects.{IsTextOf}
use Rattle.mintcx_json.specs.Safe.{IsSafeLeastObject, IsSafeNeverObject, IsSafeObject}
use Rattle.mintcx_json.proofs.safe.safe_json.Goals as goal

pub least_json-requires-clause-clocked : goal.least_json-requires-clause-clocked
least_json-requires-clause-clocked c =
    let t = c.args.system.now in
    let s = c.in-Least.schedule in
    subst (λ (d : List ℤ). IsClocked t.flat s d) (sym c.items.ensures)
    (safe_clocked t s c.in-Least.departures c.in-Least.chain (subst (IsSafeValid t) c.in-Least.is c.requires.valid) (subst IsSafeInRange c.in-Least.is c.requires.in_range))

pub least_json-requires-clause-chain : goal.least_json-requires-clause-chain
least_json-requires-clause-chain c = subst IsSafeChainInRange (sym c.items-in-Least.ensures) (subst IsSafeInRange c.in-Least.is c.requires.in_range).chain_in

pub least_json-requires-clause-members : goal.least_json-requires-clause-members
least_json-requires-clause-members c =
    let t = c.args.system.now in
    subst (λ (chain : List SafeMember). All (IsSafeMember t) chain) (sym c.items-in-Least.ensures)
    (safe_members_of_least t c.in-Least.schedule c.in-Least.departures c.in-Least.chain (subst (IsSafeValid t) c.in-Least.is c.requires.valid))

pub never_json-requires-clause-chain : goal.never_json-requires-clause-chain
never_json-requires-clause-chain c = subst IsSafeChainInRange (sym c.items-in-Never.ensures) (subst IsSafeInRange c.in-Never.is c.requires.in_range)

pub never_json-requires-clause-members : goal.never_json-requires-clause-members
never_json-requires-clause-members c =
    let t = c.args.system.now in
    subst (λ (chain : List SafeMember). All (IsSafeMember t) chain) (sym c.items-in-Never.ensures)
    (safe_members_of_never t c.in-Never.chain (subst (IsSafeValid t) c.in-Never.is c.requires.valid))

pub returns-in-Least : goal.returns-in-Least
returns-in-Least c =
    let design = c.args.system.now.flat in
    let s = c.in-Least.schedule in
    let without = c.args.without.now in
    let subject = c.args.view.now.subject in
    IfOk-weaker c.least_json.result _ _
    (λ text e. subst (λ (x : SafeCertificate). IsSafeObject design x without subject text) (sym c.in-Least.is)
    (subst (λ (x : List ℤ). IsSafeLeastObject design s x c.in-Least.chain without subject text) c.items.ensures
    (subst (λ (chain : List SafeMember). IsSafeLeastObject design s c.items.result.now chain without subject text) c.items-in-Least.ensures
    (subst (λ (x : List ℕ). IsSafeLeastObject design s c.items.result.now c.items-in-Least.result.now without x text) c.bytes-subject.ensures e))))
    c.least_json.ensures

pub returns-in-Never : goal.returns-in-Never
returns-in-Never c =
    let design = c.args.system.now.flat in
    let subject = c.args.view.now.subject in
    IfOk-weaker c.never_json.result _ _
    (λ text e. subst (λ (x : SafeCertificate). IsSafeObject design x c.args.without.now subject text) (sym c.in-Never.is)
    (subst (λ (chain : List SafeMember). IsSafeNeverObject design chain subject text) c.items-in-Never.ensures
    (subst (λ (x : List ℕ). IsSafeNeverObject design c.items-in-Never.result.now x text) c.bytes-subject.ensures e)))
    c.never_json.ensures
