use Rattle.mintc_command_answers.proofs.SourceLaws.{Gives-system, Refuses-system}
use Rattle.mintc_command_answers.proofs.source.system_of.Goals as goal

pub returns-clause-value : goal.returns-clause-value
returns-clause-value c =
    Gives-system c.args.limits.now c.args.source c.args.files.now c.in_ok-flat.flat c.accepted_system.result c.in_ok-flat.ensures.value c.accepted_system.ensures.value

pub returns-clause-stop : goal.returns-clause-stop
returns-clause-stop c =
    Refuses-system c.args.limits.now c.args.source c.args.files.now c.in_ok-flat.flat c.accepted_system.result c.in_ok-flat.ensures.value c.accepted_system.ensures.limits c.in_ok-flat.ensures.within c.accepted_system.ensures.stop

pub returns-clause-short : goal.returns-clause-short
returns-clause-short c = c.give_back.ensures.short c.args.limits.now c.requires.short
