use Rattle.std.proofs.Common.{ℤ, List, refl, subst, sym}
use Rattle.mintc_slack.specs.declared.finding.Slacks.{Slacks}
use Rattle.mintcx_picture.specs.declared.drawn.Drawn.TheVariants.{Picture}
use Rattle.mintcx_histogram.specs.Pictures.{IsSlackDrawn, IsSlackPicture}
use Rattle.mintcx_histogram.proofs.drawing.slack_picture.Goals as goal

pub returns-in_ok-text-in-Least-clause-slacks : goal.returns-in_ok-text-in-Least-clause-slacks
returns-in_ok-text-in-Least-clause-slacks c =
    let view = c.args.view.now in
    let text = c.in_ok-text-in-Least.text in
    let told = subst (λ (v : List ℤ). IsSlackPicture c.in-Least.cycle v view text) c.items.ensures c.in_ok-text-in-Least.ensures in
    subst (λ (v : Slacks). IsSlackDrawn view v (Picture text)) (sym c.in-Least.is) (text, refl, told)
