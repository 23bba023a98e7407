use Rattle.std.proofs.Common.{◌++◌, ℕ, List, ap, ◌∙◌}
use Rattle.mintcx_reports.specs.Reports.{report_text}
use Rattle.mintcx_reports.proofs.report.report_of.Goals as goal

pub returns : goal.returns
returns c =
    let decided = c.args.decided.now in
    let borrowing = decided.borrowing.now in
    let text =
    report_text c.args.flat.now decided.schedule.now decided.departures.now decided.cells.now decided.stages.now borrowing.latches borrowing.places.items c.args.view.now in
    c.new.ensures ∙ c.into_bytes.ensures ∙ c.in_ok-put_report.ensures ∙ ap (λ (old : List ℕ). old ++ text) c.new-lines.ensures
