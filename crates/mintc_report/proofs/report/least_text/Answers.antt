use Rattle.std.proofs.Common.{length, ◌∙◌, ap, SFits, w64, rules}
use Rattle.std.proofs.lemmas.Int.{to_z-of_z}
use Rattle.mintc_timing.specs.Design.{Design}
use Rattle.mintc_report.specs.Answers.{AppendsLines}
use Rattle.mintc_report.specs.Reports.{AreLateLines}
use Rattle.mintc_report.proofs.AnswerLaws.{lowest_as}
use Rattle.mintc_report.proofs.ReportLaws.{least_written}
use Rattle.mintc_report.proofs.report.least_text.Goals as goal

pub returns : goal.returns
returns c =
    let s = c.args.schedule.now in
    let den_fits : SFits w64 c.args.schedule.now.den = search rules in
    let cycle = lowest_as c.args.schedule.now.cycle c.args.schedule.now.den c.lowest.result (search rules) (search rules) c.lowest.ensures in
    let lates : AppendsLines (AreLateLines c.elements.result.now s.den c.args.departures.now (length c.elements.result.now)) c.put_phases.new.lines c.put_departures.new.lines =
    rw (to_z-of_z w64 s.den den_fits) at c.in_ok-put_departures.ensures in
    least_written c.args.system.now s c.args.departures.now c.args.chain.now c.lowest.result c.items.result.now c.elements.result.now
    c.new-lines.result c.put_cycle.new.lines c.put_phases.new.lines c.put_departures.new.lines c.put_chain.new.lines c.into_bytes.result.items
    cycle (c.items.ensures ∙ c.phases.ensures.value ∙ ap (λ (d : Design). d.phases) c.flat-flat.ensures.value) (c.elements.ensures.value ∙ ap (λ (d : Design). d.elements) c.flat-flat.ensures.value)
    c.new-lines.ensures c.in_ok-put_cycle.ensures c.in_ok-put_phases.ensures lates c.in_ok-put_chain.ensures c.into_bytes.ensures
