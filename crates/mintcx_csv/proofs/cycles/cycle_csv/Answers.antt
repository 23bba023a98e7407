use Rattle.std.proofs.Common.{◌≡◌, ◌∙◌, ℕ, List, ap, length, subst, sym}
use Rattle.std.specs.Prelude.{All}
use Rattle.std.proofs.lemmas.Result.{IfOk-weaker}
use Rattle.mintc_timing.specs.Design.{Design, phase_count}
use Rattle.mintc_certificate.specs.declared.members.Member.{Member}
use Rattle.mintc_certificate.specs.Ranges.{IsChainInRange}
use Rattle.mintc_certificate.specs.Valid.{IsMember}
use Rattle.mintcx_cycles.specs.declared.cycles.AtCycle.{AtCycle}
use Rattle.mintcx_cycles.specs.AtCycles.{IsAtCycle, IsSayable}
use Rattle.mintcx_optima.proofs.SharedOptimumLaws.{members_of_short, right_clocked}
use Rattle.mintcx_csv.specs.Chains.{IsNeverTable}
use Rattle.mintcx_csv.specs.Cycles.{IsCycleTable, phase_records}
use Rattle.mintcx_csv.specs.Tables.{IsTable}
use Rattle.mintcx_csv.proofs.cycles.cycle_csv.Goals as goal

pub phases_csv-requires-clause-in_range : goal.phases_csv-requires-clause-in_range
phases_csv-requires-clause-in_range c = (subst IsSayable c.in-Right.is c.requires.sayable).0

pub phases_csv-requires-clause-alike : goal.phases_csv-requires-clause-alike
phases_csv-requires-clause-alike c =
    let t = c.args.system.now in
    let found = c.requires.found in
    let own = subst (IsAtCycle t found.0) c.in-Right.is found.1 in
    own.right.clock.starts ∙ ap phase_count (sym c.flat.ensures.value)

pub never_csv-requires-clause-chain : goal.never_csv-requires-clause-chain
never_csv-requires-clause-chain c = subst IsChainInRange (sym c.items.ensures) (subst IsSayable c.in-Short.is c.requires.sayable)

pub never_csv-requires-clause-members : goal.never_csv-requires-clause-members
never_csv-requires-clause-members c =
    let t = c.args.system.now in
    let found = c.requires.found in
    subst (All (IsMember t)) (sym c.items.ensures) (members_of_short t found.0 c.in-Short.chain (subst (IsAtCycle t found.0) c.in-Short.is found.1))

pub returns-in-Right : goal.returns-in-Right
returns-in-Right c =
    let design = c.args.system.now.flat in
    IfOk-weaker c.phases_csv.result _ _
    (λ text e. subst (λ (x : AtCycle). IsCycleTable design x text) (sym c.in-Right.is)
    (subst (λ (x : Design). IsTable (phase_records x c.in-Right.schedule) text) c.flat.ensures.value e))
    c.phases_csv.ensures

pub returns-in-Short : goal.returns-in-Short
returns-in-Short c =
    let design = c.args.system.now.flat in
    IfOk-weaker c.never_csv.result _ _
    (λ text e. subst (λ (x : AtCycle). IsCycleTable design x text) (sym c.in-Short.is)
    (subst (λ (ms : List Member). IsNeverTable design ms text) c.items.ensures e))
    c.never_csv.ensures
