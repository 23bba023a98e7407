use Rattle.std.proofs.lemmas.Result.{IfOk-weaker}
use Rattle.mintcx_slacks.specs.Slacks.{IsSlackText}
use Rattle.mintcx_histogram.specs.Pictures.{IsSlackDrawn}
use Rattle.mintcx_answers.specs.Pictures.{IsDenied, IsShowing, IsSlackShown}
use Rattle.mintcx_answers.proofs.PictureLaws.{slacks_shown_least, slacks_shown_never}
use Rattle.mintcx_answers.proofs.pictures.slacks_shown.Goals as goal

pub returns-in-Least : goal.returns-in-Least
returns-in-Least c =
    let t = c.args.system.now in
    let own = c.in_ok-slacks.slacks in
    let view = c.args.view.now in
    IfOk-weaker c.slacks_drawn.result (IsShowing (IsSlackDrawn view own)) (IsSlackShown t view)
    (λ told h. slacks_shown_least t own c.in-Least.cycle c.in-Least.extra view told c.in-Least.is c.in_ok-slacks.ensures h)
    c.slacks_drawn.ensures

pub returns : goal.returns
returns c =
    let t = c.args.system.now in
    let own = c.in_ok-slacks.slacks in
    let view = c.args.view.now in
    IfOk-weaker c.slacks_denied.result (IsDenied (IsSlackText t view own)) (IsSlackShown t view)
    (λ told h. slacks_shown_never t own view told c.in-Never.is c.in_ok-slacks.ensures h)
    c.slacks_denied.ensures
