use Rattle.std.proofs.Common.{ℕ, List, ap, ◌∙◌, subst, sym}
use Rattle.std.specs.Prelude.{All}
use Rattle.std.proofs.lemmas.Result.{IfOk-weaker}
use Rattle.mintc_timing.specs.Design.{Design}
use Rattle.mintcx_chain.specs.declared.stages.Stage.{Stage}
use Rattle.mintcx_reports.specs.Hops.{IsTraced}
use Rattle.mintcx_reports.specs.Reports.{report_text}
use Rattle.mintcx_reports.proofs.ChainLaws.{traced_of}
use Rattle.mintcx_reports.proofs.report.least_of.Goals as goal

pub report_of-requires-clause-traced : goal.report_of-requires-clause-traced
report_of-requires-clause-traced c =
    let t = c.args.system.now in
    let least = c.args.least.now in
    let traced = traced_of t least.departures.now least.members.now c.in_ok-stages.stages c.requires.members c.requires.chain.each c.in_ok-stages.ensures.stages in
    subst (λ (design : Design). All (IsTraced design) c.items.result.now) (sym c.flat.ensures.value) (subst (All (IsTraced t.flat)) (sym c.items.ensures) traced)

pub returns : goal.returns
returns c =
    let t = c.args.system.now in
    let s = c.args.least.now.schedule.now in
    let d = c.args.least.now.departures.now in
    let cells = c.args.cells.now in
    let view = c.args.view.now in
    let found = c.in_ok-borrowing.borrowing in
    IfOk-weaker c.report_of.result _ _
    (λ text e. (
      c.in_ok-stages.stages,
      c.in_ok-stages.ensures.stages,
      (
        found.places.items,
        c.in_ok-borrowing.ensures.places,
        e ∙ ap (λ (design : Design). report_text design s d cells c.items.result.now found.latches found.places.items view) c.flat.ensures.value
            ∙ ap (λ (stages : List Stage). report_text t.flat s d cells stages found.latches found.places.items view) c.items.ensures
            ∙ ap (λ (n : ℕ). report_text t.flat s d cells c.in_ok-stages.stages n found.places.items view) c.in_ok-borrowing.ensures.latches,
      ),
    ))
    c.report_of.ensures
