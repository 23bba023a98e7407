use Rattle.std.proofs.Common.{◌≡◌, ℕ, List, length, take, arith, ap, ◌∙◌, subst, sym}
use Rattle.mintcx_chart.specs.declared.lanes.Lane.{Lane}
use Rattle.mintcx_chart.specs.Rows.{HasBar, HasBars}
use Rattle.mintcx_fares.specs.Drawings.{sources}
use Rattle.mintcx_fares.proofs.SourceLaws.{all_sources, source_bars}
use Rattle.mintcx_fares.proofs.drawing.push_fares.Goals as goal

pub loop-number-preserved : goal.loop-number-preserved
loop-number-preserved c =
    let sheet = c.args.sheet.now in
    let has = subst (λ (v : Lane). HasBar sheet.scale sheet.unit v c.loop-number.layers.items c.push_fare.new.layers.items) (sym c.index-sheet-at.is) c.in_ok-push_fare.ensures in
    source_bars sheet.scale sheet.unit sheet.lanes.now (length c.args.items.now) c.loop-number.number c.index-sheet-at.result c.args.layers.now.items c.loop-number.layers.items
    c.push_fare.new.layers.items c.requires.lanes (omega (arith, c.loop-number-test.true)) c.index-sheet-at.is c.loop-number.invariant has

pub returns : goal.returns
returns c =
    let sheet = c.args.sheet.now in
    let all : c.loop-number.number ≡ length c.args.items.now = omega (arith, c.loop-number-test.false) in
    subst (λ (v : List Lane). HasBars sheet.scale sheet.unit v c.args.layers.now.items c.loop-number.layers.items)
    (ap (λ (n : ℕ). take n (sources sheet.lanes.now)) all ∙ all_sources sheet.lanes.now (length c.args.items.now) c.requires.lanes)
    c.loop-number.invariant
