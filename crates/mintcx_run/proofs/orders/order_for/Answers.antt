use Rattle.std.proofs.lemmas.Result.{err_from_is_err_and}
use Rattle.mintcx_run.proofs.ReplyLaws.{early_gap, ordered}
use Rattle.mintcx_run.proofs.orders.order_for.Goals as goal

pub returns-in_err-settings-clause-no_fault : goal.returns-in_err-settings-clause-no_fault
returns-in_err-settings-clause-no_fault g c =
    let p = err_from_is_err_and c.from_residual.result c.from_residual.ensures.1 in
    rw (p.1, p.2) c.in_err-settings.ensures.no_fault

pub returns-in_err-settings-clause-cause : goal.returns-in_err-settings-clause-cause
returns-in_err-settings-clause-cause g c =
    let p = err_from_is_err_and c.from_residual.result c.from_residual.ensures.1 in
    rw (p.1, p.2) c.in_err-settings.ensures.cause

pub returns-clause-reply : goal.returns-clause-reply
returns-clause-reply g c =
    early_gap c.order_of.result c.args.given _ c.in_ok-settings.settings c.in_ok-asked.asked c.in_ok-settings.ensures.value c.in_ok-asked.ensures.value c.order_of.ensures.reply

pub returns-clause-value : goal.returns-clause-value
returns-clause-value g c =
    ordered c.order_of.result c.args.given _ c.in_ok-settings.settings c.in_ok-asked.asked c.in_ok-settings.ensures.value c.in_ok-asked.ensures.value c.order_of.ensures.value
