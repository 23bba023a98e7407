use Rattle.std.proofs.Common.{◌∙◌}
use Rattle.std.proofs.lemmas.Result.{err_from_is_err_and}
use Rattle.mintcx_answers.proofs.AnsweringLaws.{answer_on_file}
use Rattle.mintcx_answers.proofs.ShownLaws.{stop_beside, stop_on_system}
use Rattle.mintcx_answers.proofs.answering.design_text.Goals as goal

pub returns-in_err-system : goal.returns-in_err-system
returns-in_err-system c =
    let work = c.args.work.now in
    let p = err_from_is_err_and c.from_residual.result c.from_residual.ensures.1 in
    record {
      value = rw p.1 tt;
      stop = rw (p.1, p.2) (stop_on_system c.args.limits.now c.args.shown work.job work.source c.args.texts.now c.in_err-system.field-0.0 c.in_err-system.ensures.stop);
    }

pub returns : goal.returns
returns c =
    let work = c.args.work.now in
    let same = c.own_file-file.ensures.value ∙ c.in_ok-system.ensures.own in
    record {
      value = answer_on_file c.args.limits.now c.job_text.result c.args.shown work.job work.aspect work.beside.now work.source c.args.texts.now c.in_ok-system.system c.own_file-file.result.now c.args.view.now c.in_ok-system.ensures.value same
          c.job_text.ensures.value;
      stop = stop_beside c.args.limits.now c.args.shown c.job_text.result work.job work.source c.args.texts.now c.in_ok-system.system c.own_file-file.result.now c.in_ok-system.ensures.value same c.job_text.ensures.stop;
    }
