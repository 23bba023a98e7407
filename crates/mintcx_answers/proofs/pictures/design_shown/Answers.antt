use Rattle.std.proofs.Common.{◌∙◌}
use Rattle.std.proofs.lemmas.Result.{err_from_is_err_and}
use Rattle.mintcx_answers.specs.Answers.{name_beside}
use Rattle.mintcx_answers.specs.Pictures.{job_of}
use Rattle.mintcx_answers.proofs.PictureLaws.{shown_on_file}
use Rattle.mintcx_answers.proofs.ShownLaws.{stop_beside, stop_on_system}
use Rattle.mintcx_answers.proofs.pictures.design_shown.Goals as goal

pub returns-in_err-system-clause-stop : goal.returns-in_err-system-clause-stop
returns-in_err-system-clause-stop c =
    let sketch = c.args.sketch.now in
    let p = err_from_is_err_and c.from_residual.result c.from_residual.ensures.1 in
    rw (p.1, p.2) (stop_on_system c.args.limits.now c.args.shown (job_of sketch.motif) sketch.source c.args.texts.now c.in_err-system.field-0.0 c.in_err-system.ensures.stop)

pub returns-clause-value : goal.returns-clause-value
returns-clause-value c =
    let sketch = c.args.sketch.now in
    let same = c.own_file-file.ensures.value ∙ c.in_ok-system.ensures.own in
    shown_on_file c.args.limits.now c.motif_shown.result c.args.shown sketch.motif sketch.source (name_beside sketch.beside.now) c.args.view.now c.args.texts.now c.in_ok-system.system c.own_file-file.result.now
    c.in_ok-system.ensures.value same c.motif_shown.ensures.value

pub returns-clause-stop : goal.returns-clause-stop
returns-clause-stop c =
    let sketch = c.args.sketch.now in
    let same = c.own_file-file.ensures.value ∙ c.in_ok-system.ensures.own in
    stop_beside c.args.limits.now c.args.shown c.motif_shown.result (job_of sketch.motif) sketch.source c.args.texts.now c.in_ok-system.system c.own_file-file.result.now c.in_ok-system.ensures.value same
    c.motif_shown.ensures.stop
