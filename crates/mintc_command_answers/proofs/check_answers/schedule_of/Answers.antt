use Rattle.std.proofs.Common.{◌≡◌, length, ap, sym, ◌∙◌}
use Rattle.std.proofs.lemmas.Result.{err_from_is_err_and}
use Rattle.mintc_text.specs.declared.refusals.Refusal.TheVariants as refusal
use Rattle.mintc_command_answers.specs.Jobs.{out_of_form, other_phases}
use Rattle.mintc_command_answers.proofs.check_answers.schedule_of.Goals as goal

pub returns-in_err-schedule-clause-refusal : goal.returns-in_err-schedule-clause-refusal
returns-in_err-schedule-clause-refusal c =
    let p = err_from_is_err_and c.from_residual.result c.from_residual.ensures.1 in
    let h = c.in_err-schedule.ensures.syntax in
    rw (p.1, p.2) (out_of_form h.0 h.1 h.2)

pub returns-then-phases-given-clause-refusal : goal.returns-then-phases-given-clause-refusal
returns-then-phases-given-clause-refusal c =
    let count : length c.items.result.now ≡ length c.in_ok-schedule.schedule.starts = ap length c.items.ensures in
    other_phases c.in_ok-schedule.schedule c.in_ok-schedule.ensures.value (λ e. c.if-phases-given.true (e ∙ sym count))
    (ap (refusal.PhaseMismatch c.args.phases) count)
