use Rattle.std.proofs.lemmas.Result.{IfOk-weaker}
use Rattle.mintcx_answers.specs.Clocks.{IsOfCertificate, IsOfLeast}
use Rattle.mintcx_answers.proofs.ClockLaws.{clocks_of_least}
use Rattle.mintcx_answers.proofs.clocks.certificate_clocks.Goals as goal

pub returns-in-Valid-Least : goal.returns-in-Valid-Least
returns-in-Valid-Least c =
    let asked = c.args.clocked.now in
    let t = asked.system.now in
    let own = c.args.certificate.now in
    let s = c.in-Valid-Least.schedule in
    IfOk-weaker c.least_clocks.result (IsOfLeast t asked.clock.now s asked.titles.now) (IsOfCertificate t asked.clock.now own asked.titles.now asked.view.now)
    (λ told h. clocks_of_least t asked.clock.now own s c.in-Valid-Least.departures-1 c.in-Valid-Least.chain-1 asked.titles.now asked.view.now c.in_ok-verdict.verdict told
    c.in-Valid-Least.is-1 c.in-Valid-Least.is-0 c.in_ok-verdict.ensures.verdict h)
    c.least_clocks.ensures
