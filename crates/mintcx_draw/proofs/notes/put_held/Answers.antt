use Rattle.std.proofs.Common.{◌++◌, ℤ, w64, ap, ◌∙◌}
use Rattle.std.proofs.lemmas.Int.{to_z-of_z}
use Rattle.std.proofs.lemmas.Result.{on_ok_weaker}
use Rattle.mintcx_chart.specs.Words.{kind_on_phase}
use Rattle.mintcx_draw.specs.Notes.{lent_text}
use Rattle.mintcx_chart.proofs.SharedWrittenLaws.{in_two}
use Rattle.mintcx_draw.proofs.notes.put_held.Goals as goal

pub returns : goal.returns
returns c =
    let told = c.args.told.now in
    on_ok_weaker c.put_lent.result
    (λ e. in_two c.args.lines.now c.put_kind_on_phase.new.lines c.put_lent.new.lines (kind_on_phase told.flat.now c.args.kind c.args.element)
    (lent_text told.schedule.now told.unit c.args.borrows) c.in_ok-put_kind_on_phase.ensures
    (e ∙ ap (λ (x : ℤ). c.put_kind_on_phase.new.lines ++ lent_text told.schedule.now told.unit x) (to_z-of_z w64 c.args.borrows c.ranges.borrows)))
    c.put_lent.ensures
