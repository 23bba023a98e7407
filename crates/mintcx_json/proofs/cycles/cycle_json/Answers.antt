use Rattle.std.proofs.Common.{◌≡◌, ◌∙◌, ℕ, ℤ, List, [], ap, subst, sym}
use Rattle.std.specs.Prelude.{All}
use Rattle.std.proofs.lemmas.Result.{IfOk-weaker}
use Rattle.json.specs.Json.{Json}
use Rattle.mintc_timing.specs.Design.{Design}
use Rattle.mintc_certificate.specs.declared.members.Member.{Member}
use Rattle.mintc_certificate.specs.Ranges.{IsChainInRange}
use Rattle.mintc_certificate.specs.Valid.{IsMember}
use Rattle.mintcx_chain.specs.declared.stages.Stage.{Stage}
use Rattle.mintcx_chain.specs.Rows.{IsClocked}
use Rattle.mintcx_cycles.specs.declared.cycles.AtCycle.{AtCycle}
use Rattle.mintcx_cycles.specs.AtCycles.{IsAtCycle, IsSayable}
use Rattle.mintcx_optima.specs.Optimum.{AreStages}
use Rattle.mintcx_optima.proofs.SharedOptimumLaws.{members_of_short, right_clocked}
use Rattle.mintcx_json.specs.Cycles.{IsCycleObject, right_value, short_value}
use Rattle.mintcx_json.specs.Objects.{IsTextOf}
use Rattle.mintcx_json.proofs.cycles.cycle_json.Goals as goal

pub right_json-requires : goal.right_json-requires
right_json-requires c =
    let t = c.args.system.now in
    let cycle = c.args.cycle in
    let found = subst (IsAtCycle t cycle) c.in-Right.is c.requires.found in
    let sayable = subst IsSayable c.in-Right.is c.requires.sayable in
    let own = right_clocked t cycle c.in-Right.schedule c.in-Right.departures found sayable.0 sayable.1 in
    subst (λ (x : Design). IsClocked x c.in-Right.schedule c.items.result.now) (sym c.flat.ensures.value)
    (subst (λ (d : List ℤ). IsClocked t.flat c.in-Right.schedule d) (sym c.items.ensures) own)

pub short_json-requires-clause-chain : goal.short_json-requires-clause-chain
short_json-requires-clause-chain c = subst IsChainInRange (sym c.items-in-Short.ensures) (subst IsSayable c.in-Short.is c.requires.sayable)

pub short_json-requires-clause-members : goal.short_json-requires-clause-members
short_json-requires-clause-members c =
    let t = c.args.system.now in
    let found = subst (IsAtCycle t c.args.cycle) c.in-Short.is c.requires.found in
    subst (All (IsMember t)) (sym c.items-in-Short.ensures) (members_of_short t c.args.cycle c.in-Short.chain found)

pub returns-in-Right : goal.returns-in-Right
returns-in-Right c =
    let design = c.args.system.now.flat in
    let s = c.in-Right.schedule in
    let d = c.in-Right.departures in
    let subject = c.args.view.now.subject in
    let same : right_value c.flat.result.now s c.items.result.now c.bytes-subject.result.now ≡ right_value design s d subject =
    ap (λ (x : Design). right_value x s c.items.result.now c.bytes-subject.result.now) c.flat.ensures.value
    ∙ ap (λ (x : List ℤ). right_value design s x c.bytes-subject.result.now) c.items.ensures
    ∙ ap (λ (x : List ℕ). right_value design s d x) c.bytes-subject.ensures in
    IfOk-weaker c.right_json.result _ _
    (λ text e. subst (λ (x : AtCycle). IsCycleObject design c.args.cycle x subject text) (sym c.in-Right.is) (subst (λ (j : Json). IsTextOf j text) same e))
    c.right_json.ensures

pub returns-in-Short : goal.returns-in-Short
returns-in-Short c =
    let design = c.args.system.now.flat in
    let cycle = c.args.cycle in
    let subject = c.args.view.now.subject in
    IfOk-weaker c.short_json.result _ _
    (λ text e. subst (λ (x : AtCycle). IsCycleObject design cycle x subject text) (sym c.in-Short.is) (
      e.0,
      subst (λ (ms : List Member). AreStages design [] ms e.0) c.items-in-Short.ensures e.1,
      subst (λ (x : List ℕ). IsTextOf (short_value design cycle e.0 x) text) c.bytes-subject.ensures e.2,
    ))
    c.short_json.ensures
