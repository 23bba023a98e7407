use Rattle.mintc_command_answers.specs.declared.command.Job.TheVariants.{Optimise}
use Rattle.mintcx_answers.proofs.CertificateLaws.{certified_of_command, certified_told}
use Rattle.mintcx_answers.proofs.ShownLaws.{design_length, system_stopped}
use Rattle.mintcx_answers.proofs.certificates.certified_text.Goals as goal

pub returns-in-Some-clause-stop : goal.returns-in-Some-clause-stop
returns-in-Some-clause-stop c = design_length c.args.limits.now c.args.shown Optimise c.args.source c.args.files.now c.roles.result.now c.in-Some.refusal c.roles.ensures c.in-Some.ensures

pub returns : goal.returns
returns c =
    let most = c.args.limits.now in
    let texts = c.args.files.now in
    let told = c.certified_design.ensures in
    record {
      value = certified_told most c.certified_design.result c.args.shown c.args.source texts c.args.view.now c.in_default.ensures told.value;
      of_command = certified_of_command most c.certified_design.result c.args.shown c.args.source texts c.args.view.now told.value;
      stop = system_stopped most c.args.shown c.certified_design.result Optimise c.args.source texts c.in_default.ensures told.stop;
    }
