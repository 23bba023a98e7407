use Rattle.std.proofs.lemmas.Result.{err_from_is_err_and}
use Rattle.mintc_command_answers.proofs.SourceLaws.{GivesOrdered-system, StopsAt-system}
use Rattle.mintc_command_answers.proofs.source.ordered_of.Goals as goal

pub returns-clause-value : goal.returns-clause-value
returns-clause-value c =
    GivesOrdered-system c.args.limits.now c.systems_are_accepted.ensures c.args.source c.args.files.now c.in_ok-flat.flat c.in_ok-order.order c.in_ok-flat.ensures.value c.phases-phases.ensures.kept c.in_ok-flat.ensures.within c.in_ok-order.ensures.system

pub returns-in_err-order-clause-stop : goal.returns-in_err-order-clause-stop
returns-in_err-order-clause-stop c =
    let p = err_from_is_err_and c.from_residual-in_err-order.result c.from_residual-in_err-order.ensures.1 in
    rw (p.1, p.2) (StopsAt-system c.args.limits.now c.args.source c.args.files.now c.in_ok-flat.flat c.in_err-order.field-0.0 c.in_ok-flat.ensures.value c.phases-phases.ensures.kept c.in_ok-flat.ensures.within c.in_err-order.ensures.stop)

pub returns-clause-short : goal.returns-clause-short
returns-clause-short c = c.give_back.ensures.short c.args.limits.now c.requires.short

pub returns-in_err-order-clause-short : goal.returns-in_err-order-clause-short
returns-in_err-order-clause-short c = c.give_back.ensures.short c.args.limits.now c.requires.short
