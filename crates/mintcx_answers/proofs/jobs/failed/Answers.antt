use Rattle.std.proofs.Common.{ℤ, List, [], refl, sym, subst, ◌∙◌}
use Rattle.mintc_timing.specs.Departures.{AreEarly, AreLate}
use Rattle.mintcx_answers.proofs.JobLaws.{fail_settled, fail_unsettled}
use Rattle.mintcx_answers.proofs.jobs.failed.Goals as goal

pub fail_text-requires-clause-named : goal.fail_text-requires-clause-named
fail_text-requires-clause-named c = c.violations_are_named.ensures c.args.system.now c.args.schedule.now c.args.violations.now c.requires.violations

pub fail_text-requires-in-Loop-clause-named : goal.fail_text-requires-in-Loop-clause-named
fail_text-requires-in-Loop-clause-named c = c.violations_are_named.ensures c.args.system.now c.args.schedule.now c.args.violations.now c.requires.violations

pub returns-in-Settled : goal.returns-in-Settled
returns-in-Settled c =
    let t = c.args.system.now in
    let s = c.args.schedule.now in
    let is_late = subst (λ (d : List ℤ). AreLate t s d) (sym (c.late-in-Settled.ensures ∙ c.early.ensures.late)) c.in-Settled.ensures.settled.0 in
    let is_early = subst (λ (d : List ℤ). AreEarly t s d) (sym c.early-in-Settled.ensures) c.early.ensures.early in
    fail_settled c.fail_text.result t s c.args.view.now c.args.violations.now c.late-in-Settled.result.now c.early-in-Settled.result.now c.requires.violations c.requires.some is_late is_early c.fail_text.ensures

pub returns-in-Loop : goal.returns-in-Loop
returns-in-Loop c =
    fail_unsettled c.fail_text-in-Loop.result c.args.system.now c.args.schedule.now c.args.view.now c.args.violations.now [] [] c.requires.violations c.requires.some c.in-Loop.ensures.settled.1 refl refl c.fail_text-in-Loop.ensures
