use Rattle.std.proofs.Common.{◌∙◌, ap}
use Rattle.mintc_command_answers.specs.Commands.{roles_of}
use Rattle.mintcx_answers.specs.Pictures.{job_of}
use Rattle.mintcx_answers.proofs.ShownLaws.{design_length, job_stopped}
use Rattle.mintcx_answers.proofs.pictures.picture_for.Goals as goal

pub returns-in-Some-clause-stop : goal.returns-in-Some-clause-stop
returns-in-Some-clause-stop c =
    let sketch = c.args.sketch.now in
    design_length c.args.limits.now c.args.shown (job_of sketch.motif) sketch.source c.args.files.now c.roles.result.now c.in-Some.refusal (c.roles.ensures ∙ ap roles_of c.command_of-command.ensures) c.in-Some.ensures

pub returns-clause-stop : goal.returns-clause-stop
returns-clause-stop c =
    let sketch = c.args.sketch.now in
    job_stopped c.args.limits.now c.args.shown c.design_shown.result (job_of sketch.motif) sketch.source c.args.files.now c.in_default.ensures c.design_shown.ensures.stop
