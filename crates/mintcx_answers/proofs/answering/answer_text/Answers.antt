use Rattle.std.proofs.Common.{None}
use Rattle.std.proofs.lemmas.Result.{err_from_is_err_and}
use Rattle.mintc_command_answers.specs.Corners.{IsFirstRefused, corners_of}
use Rattle.mintc_command_answers.specs.declared.command.Command.TheVariants.{Corners}
use Rattle.mintcx_answers.proofs.AnsweringLaws.{answered, halted, of_command, refused_length}
use Rattle.mintcx_answers.proofs.ShownLaws.{job_halted}
use Rattle.mintcx_answers.proofs.answering.answer_text.Goals as goal

pub returns-in-Some-clause-stop : goal.returns-in-Some-clause-stop
returns-in-Some-clause-stop c =
    refused_length c.args.limits.now c.args.shown c.args.question.now.command c.args.files.now c.roles.result.now c.in-Some.refusal c.requires.on_files c.roles.ensures c.in-Some.ensures

pub returns-in-Corners : goal.returns-in-Corners
returns-in-Corners c =
    let asked = c.args.question.now in
    let count = c.in-Corners.count in
    let texts = c.args.files.now in
    let told = c.corners_answer.ensures in
    record {
      value = answered c.args.limits.now c.corners_answer.result c.args.shown asked.command count asked.aspect asked.beside.now texts c.args.view.now c.in-Corners.is c.in_default.ensures told.value;
      of_command = of_command c.args.limits.now c.corners_answer.result None (Corners count) asked.aspect asked.beside.now texts c.args.view.now told.value;
      stop = halted c.args.limits.now c.corners_answer.result c.args.shown asked.command count texts c.in-Corners.is told.stop;
    }

pub returns-in_err-design_text-in-OfDesign-clause-stop : goal.returns-in_err-design_text-in-OfDesign-clause-stop
returns-in_err-design_text-in-OfDesign-clause-stop c =
    let most = c.args.limits.now in
    let texts = c.args.files.now in
    let p = err_from_is_err_and c.from_residual-in_err-design_text-in-OfDesign.result c.from_residual-in_err-design_text-in-OfDesign.ensures.1 in
    rw (p.1, p.2, c.in-OfDesign.is) (job_halted most c.args.shown (IsFirstRefused most (corners_of texts) 1) c.in-OfDesign.job c.in-OfDesign.source texts c.in_err-design_text-in-OfDesign.field-0.0 c.in_default.ensures
    c.in_err-design_text-in-OfDesign.ensures.stop)
