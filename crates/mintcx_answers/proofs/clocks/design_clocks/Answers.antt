use Rattle.std.proofs.Common.{◌∙◌, ℕ, List, subst}
use Rattle.std.proofs.lemmas.Result.{IfOk-weaker, err_from_is_err_and}
use Rattle.mintcx_answers.specs.Clocks.{IsOfFiles, IsOfText, job_of}
use Rattle.mintcx_answers.proofs.ClockLaws.{clock_for}
use Rattle.mintcx_answers.proofs.ShownLaws.{stop_beside, stop_on_system}
use Rattle.mintcx_answers.proofs.clocks.design_clocks.Goals as goal

pub returns-in_err-system-clause-stop : goal.returns-in_err-system-clause-stop
returns-in_err-system-clause-stop c =
    let asked = c.args.asked.now in
    let p = err_from_is_err_and c.from_residual.result c.from_residual.ensures.1 in
    rw (p.1, p.2) (stop_on_system c.args.limits.now c.args.shown (job_of asked.stated) asked.source c.args.texts.now c.in_err-system.field-0.0 c.in_err-system.ensures.stop)

pub text_clocks-requires-clause-alike : goal.text_clocks-requires-clause-alike
text_clocks-requires-clause-alike c =
    (clock_for c.args.limits.now c.args.asked.now.source c.args.texts.now c.in_ok-system.system c.in_ok-clock.clock c.args.shown c.args.read c.clocks_keep_limits.ensures c.clocks_are_determined.ensures
    c.clocks_are_not_refused.ensures c.in_ok-system.ensures.value c.requires.read c.in_ok-clock.ensures.limits c.in_ok-clock.ensures.value).alike

pub text_clocks-requires-clause-limits : goal.text_clocks-requires-clause-limits
text_clocks-requires-clause-limits c =
    (clock_for c.args.limits.now c.args.asked.now.source c.args.texts.now c.in_ok-system.system c.in_ok-clock.clock c.args.shown c.args.read c.clocks_keep_limits.ensures c.clocks_are_determined.ensures
    c.clocks_are_not_refused.ensures c.in_ok-system.ensures.value c.requires.read c.in_ok-clock.ensures.limits c.in_ok-clock.ensures.value).limits

pub returns-clause-value : goal.returns-clause-value
returns-clause-value c =
    let asked = c.args.asked.now in
    let most = c.args.limits.now in
    let t = c.in_ok-system.system in
    let clock = c.in_ok-clock.clock in
    let file = c.own_file-file.result.now in
    let same = c.own_file-file.ensures.value ∙ c.in_ok-system.ensures.own in
    let fits = clock_for most asked.source c.args.texts.now t clock c.args.shown c.args.read c.clocks_keep_limits.ensures c.clocks_are_determined.ensures c.clocks_are_not_refused.ensures c.in_ok-system.ensures.value
    c.requires.read c.in_ok-clock.ensures.limits c.in_ok-clock.ensures.value in
    IfOk-weaker c.text_clocks.result (IsOfText most asked.stated t clock file asked.titles.now asked.view.now) (IsOfFiles most c.args.shown asked.stated asked.source asked.titles.now asked.view.now c.args.texts.now)
    (λ told h. (t, c.in_ok-system.ensures.value, (clock, fits.value, subst (λ (f : List ℕ). IsOfText most asked.stated t clock f asked.titles.now asked.view.now told) same h)))
    c.text_clocks.ensures.value

pub returns-clause-stop : goal.returns-clause-stop
returns-clause-stop c =
    let asked = c.args.asked.now in
    let same = c.own_file-file.ensures.value ∙ c.in_ok-system.ensures.own in
    stop_beside c.args.limits.now c.args.shown c.text_clocks.result (job_of asked.stated) asked.source c.args.texts.now c.in_ok-system.system c.own_file-file.result.now c.in_ok-system.ensures.value same
    c.text_clocks.ensures.stop
