use Rattle.std.proofs.lemmas.Result.{IfOk-weaker}
use Rattle.mintcx_draw.specs.Drawings.{IsDrawnOf}
use Rattle.mintcx_answers.specs.Answers.{name_beside}
use Rattle.mintcx_answers.specs.Pictures.{IsCertificateShown, IsShowing}
use Rattle.mintcx_answers.proofs.PictureLaws.{certificate_drawn}
use Rattle.mintcx_answers.proofs.pictures.certificate_shown.Goals as goal

pub returns-in-Valid-Least : goal.returns-in-Valid-Least
returns-in-Valid-Least c =
    let t = c.args.system.now in
    let own = c.args.certificate.now in
    let design = name_beside c.args.sketch.now.beside.now in
    let view = c.args.view.now in
    IfOk-weaker c.certified_shown.result (IsShowing (IsDrawnOf t.flat own)) (IsCertificateShown t own design view)
    (λ told h. certificate_drawn t own c.in-Valid-Least.schedule-1 c.in-Valid-Least.departures-1 c.in-Valid-Least.chain-1 design view c.in_ok-verdict.verdict told
    c.in-Valid-Least.is-1 c.in-Valid-Least.is-0 c.in_ok-verdict.ensures.verdict h)
    c.certified_shown.ensures
