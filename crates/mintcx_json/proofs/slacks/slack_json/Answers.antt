use Rattle.std.proofs.Common.{ℕ, ℤ, List, subst, sym}
use Rattle.std.proofs.lemmas.Result.{IfOk-weaker}
use Rattle.mintc_slack.specs.declared.finding.Slacks.{Slacks}
use Rattle.mintcx_slacks.specs.Slacks.{AreBySlack}
use Rattle.mintcx_json.specs.Objects.{IsTextOf}
use Rattle.mintcx_json.specs.Slacks.{IsSlackObject, no_slacks_value, slacks_value}
use Rattle.mintcx_json.proofs.slacks.slack_json.Goals as goal

pub returns-in-Least : goal.returns-in-Least
returns-in-Least c =
    let t = c.args.system.now in
    let cycle = c.in-Least.cycle in
    let subject = c.args.view.now.subject in
    IfOk-weaker c.least_json.result _ _
    (λ text e. subst (λ (x : Slacks). IsSlackObject t x subject text) (sym c.in-Least.is) (
      e.0,
      subst (λ (extra : List ℤ). AreBySlack extra e.0) c.items.ensures e.1,
      subst (λ (x : List ℕ). IsTextOf (slacks_value t cycle e.0 x) text) c.bytes-subject.ensures e.2,
    ))
    c.least_json.ensures

pub returns-in-Never : goal.returns-in-Never
returns-in-Never c =
    let t = c.args.system.now in
    let subject = c.args.view.now.subject in
    IfOk-weaker c.never_json.result _ _
    (λ text e. subst (λ (x : Slacks). IsSlackObject t x subject text) (sym c.in-Never.is)
    (subst (λ (x : List ℕ). IsTextOf (no_slacks_value x) text) c.bytes-subject.ensures e))
    c.never_json.ensures
