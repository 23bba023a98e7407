use Rattle.std.proofs.Common.{arith, subst, sym}
use Rattle.mintcx_chart.specs.declared.lanes.Lane.{Lane}
use Rattle.mintcx_chart.specs.Rows.{HasBar}
use Rattle.mintcx_chart.proofs.SharedRowLaws.{bars_more}
use Rattle.mintcx_draw.proofs.bars.push_bars.Goals as goal

pub loop-at-preserved : goal.loop-at-preserved
loop-at-preserved c =
    let sheet = c.args.chain.now.sheet in
    let has = subst (λ (v : Lane). HasBar sheet.scale sheet.unit v c.loop-at.layers.items c.push_bar.new.layers.items) (sym c.index-sheet-at.is) c.in_ok-push_bar.ensures in
    bars_more sheet.scale sheet.unit sheet.lanes.now c.loop-at.at c.index-sheet-at.result c.args.layers.now.items c.loop-at.layers.items c.push_bar.new.layers.items
    (omega (arith, c.loop-at-test.true, c.requires.bars)) c.index-sheet-at.is c.loop-at.invariant has
