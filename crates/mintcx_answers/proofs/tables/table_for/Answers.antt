use Rattle.mintc_command_answers.specs.declared.command.Job.TheVariants.{Optimise}
use Rattle.mintcx_answers.proofs.ShownLaws.{design_length, system_stopped}
use Rattle.mintcx_answers.proofs.tables.table_for.Goals as goal

pub returns-in-Some-clause-stop : goal.returns-in-Some-clause-stop
returns-in-Some-clause-stop c = design_length c.args.limits.now c.args.shown Optimise c.args.source c.args.files.now c.roles.result.now c.in-Some.refusal c.roles.ensures c.in-Some.ensures

pub returns-clause-stop : goal.returns-clause-stop
returns-clause-stop c =
    system_stopped c.args.limits.now c.args.shown c.tabled_design.result Optimise c.args.source c.args.files.now c.in_default.ensures c.tabled_design.ensures.stop
