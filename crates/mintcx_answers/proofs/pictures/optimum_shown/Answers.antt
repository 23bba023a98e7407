use Rattle.std.proofs.lemmas.Result.{IfOk-weaker}
use Rattle.mintcx_optima.specs.Optimum.{IsOptimumText}
use Rattle.mintcx_draw.specs.Drawings.{IsDrawnOf}
use Rattle.mintcx_answers.specs.Pictures.{IsDenied, IsOptimumShown, IsShowing}
use Rattle.mintcx_answers.proofs.PictureLaws.{optimum_denied, optimum_drawn}
use Rattle.mintcx_answers.proofs.pictures.optimum_shown.Goals as goal

pub returns-in-Least : goal.returns-in-Least
returns-in-Least c =
    let t = c.args.system.now in
    let own = c.in_ok-certificate.certificate in
    let view = c.args.view.now in
    IfOk-weaker c.least_shown.result (IsShowing (IsDrawnOf t.flat own)) (IsOptimumShown t view)
    (λ told h. optimum_drawn t own c.in-Least.schedule c.in-Least.departures c.in-Least.chain view told c.in-Least.is c.in_ok-certificate.ensures.optimum h)
    c.least_shown.ensures

pub returns : goal.returns
returns c =
    let t = c.args.system.now in
    let own = c.in_ok-certificate.certificate in
    let view = c.args.view.now in
    IfOk-weaker c.never_denied.result (IsDenied (IsOptimumText t.flat own view)) (IsOptimumShown t view)
    (λ told h. optimum_denied t own c.in-Never.chain view told c.in-Never.is c.in_ok-certificate.ensures.optimum h)
    c.never_denied.ensures
