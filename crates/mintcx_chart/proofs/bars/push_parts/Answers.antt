use Rattle.std.proofs.Common.{◌≡◌, ◌<◌, List, length, get_or, subst}
use Rattle.mintcx_chart.specs.declared.parts.Part.{Part}
use Rattle.mintcx_chart.proofs.SharedRowLaws.{parts_more}
use Rattle.mintcx_chart.proofs.bars.push_parts.Goals as goal

pub loop-part-preserved : goal.loop-part-preserved
loop-part-preserved c =
    let sheet = c.args.sheet.now in
    let lane = c.args.lane.now in
    let same = c.items-part-items.ensures in
    parts_more sheet.scale sheet.unit lane lane.parts c.loop-part.part-index c.part-item.result c.loop-part.forms.items c.push_part.new.forms.items
    (subst (λ (v : List Part). c.loop-part.part-index < length v) same c.loop-part-test.true)
    (subst (λ (v : List Part). c.part-item.result ≡ get_or v c.loop-part.part-index c.part-item.result) same c.part-item.is)
    c.loop-part.invariant c.in_ok-push_part.ensures
