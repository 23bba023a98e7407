use Rattle.std.proofs.Common.{◌≡◌, ◌++◌, ◌∷◌, [], ap, ◌∙◌}
use Rattle.std.specs.Prelude.{codes}
use Rattle.std.proofs.lemmas.Result.{on_ok_weaker}
use Rattle.mintc_fraction.specs.Ratio.{Ratio}
use Rattle.mintcx_amounts.specs.declared.unit.Unit.{Unit}
use Rattle.mintcx_frame.specs.Ends.{foot_text, head_text}
use Rattle.mintcx_frame.specs.Phases.{phases_text}
use Rattle.mintcx_optima.specs.Least.{cycle_of, unit_of}
use Rattle.mintcx_reports.specs.Borrowers.{borrowers_text}
use Rattle.mintcx_reports.specs.Reports.{deciding_text}
use Rattle.mintcx_reports.proofs.WrittenLaws.{of_four, of_six}
use Rattle.mintcx_reports.proofs.report.put_report.Goals as goal

pub returns : goal.returns
returns c =
    let old = c.args.lines.now in
    let flat = c.args.flat.now in
    let view = c.args.view.now in
    let decided = c.args.decided.now in
    let s = decided.schedule.now in
    let d = decided.departures.now in
    let all = decided.borrowing.now.latches in
    let places = decided.borrowing.now.places.items in
    let unit_is = c.unit_of-unit.ensures in
    let head = head_text (codes "least") (cycle_of s) view in
    let phases = phases_text flat s (unit_of s view) in
    let deciding = deciding_text flat s d decided.cells.now (unit_of s view) decided.stages.now in
    let borrowers = borrowers_text flat s d (unit_of s view) view all places in
    let begun = of_six old c.put_head.new.lines c.put.new.self c.put_phases.new.lines c.put-2.new.self c.put_deciding.new.lines c.put-3.new.self
    head (10 ∷ []) phases (10 ∷ []) deciding (10 ∷ [])
    (c.in_ok-put_head.ensures ∙ ap (λ (x : Ratio). old ++ head_text (codes "least") x view) c.cycle_of.ensures.value)
    c.in_ok-put.ensures.ok
    (c.in_ok-put_phases.ensures ∙ ap (λ (x : Unit). c.put.new.self ++ phases_text flat s x) unit_is)
    c.in_ok-put-2.ensures.ok
    (c.in_ok-put_deciding.ensures ∙ ap (λ (x : Unit). c.put-2.new.self ++ deciding_text flat s d decided.cells.now x decided.stages.now) unit_is)
    c.in_ok-put-3.ensures.ok in
    on_ok_weaker c.put_foot.result
    (λ e. of_four old c.put-3.new.self c.put_borrowers.new.lines c.put-4.new.self c.put_foot.new.lines
    (head ++ 10 ∷ [] ++ phases ++ 10 ∷ [] ++ deciding ++ 10 ∷ []) borrowers (10 ∷ []) (foot_text (unit_of s view) [])
    begun
    (c.in_ok-put_borrowers.ensures ∙ ap (λ (x : Unit). c.put-3.new.self ++ borrowers_text flat s d x view all places) unit_is)
    c.in_ok-put-4.ensures.ok
    (e ∙ ap (λ (x : Unit). c.put-4.new.self ++ foot_text x []) unit_is))
    c.put_foot.ensures
