use Rattle.std.proofs.Common.{◌≡◌, ◌+◌, ap, ◌∙◌, subst, sym, arith, length, ◌++◌, ◌∷◌, [], List, map}
use Rattle.std.specs.Prelude.{All}
use Rattle.std.specs.List.{range_with_len}
use Rattle.std.proofs.lemmas.List.{length-append}
use Rattle.std.proofs.lemmas.List.Elements.{All-push}
use Rattle.mintcx_chart.specs.declared.lanes.Lane.{Lane}
use Rattle.mintcx_chart.specs.Sheets.{IsLane}
use Rattle.mintcx_chart.specs.Stretches.{lane_times, times_of}
use Rattle.mintcx_draw.specs.Lanes.{facts_at, lane_facts, times_at}
use Rattle.mintcx_draw.proofs.LaneLaws.{facts_more, times_more}
use Rattle.mintcx_draw.proofs.chain.first_lanes.Goals as goal

pub loop-number-preserved : goal.loop-number-preserved
loop-number-preserved c =
    let told = c.args.told.now in
    let lanes = c.loop-number.lanes.items in
    let lane = c.in_ok-lane.lane in
    let n = c.loop-number.number in
    let f = facts_at told.flat.now told.schedule.now.den c.args.staged.now.stages.now c.args.staged.now.rows.now in
    let g = times_at told.flat.now told.schedule.now c.args.staged.now.stages.now c.args.staged.now.rows.now in
    let same = c.in_ok-push.ensures.items in
    record {
      each = subst (λ (v : List Lane). All IsLane v) (sym same) (All-push IsLane lanes lane c.loop-number.invariant.each c.in_ok-lane.ensures.lane);
      count = ap (λ (v : List Lane). length v) same ∙ length-append lanes (lane ∷ []) ∙ ap (λ k. k + 1) c.loop-number.invariant.count;
      facts = ap (λ (v : List Lane). map lane_facts v) same ∙ facts_more f lanes lane n c.loop-number.invariant.facts c.in_ok-lane.ensures.facts;
      times = ap (λ (v : List Lane). times_of told.schedule.now.cycle v) same ∙ times_more (lane_times told.schedule.now.cycle) g lanes lane n c.loop-number.invariant.times c.in_ok-lane.ensures.times;
      least = omega (arith, c.loop-number.invariant.least);
      most = omega (arith, c.loop-number.invariant.most, c.height_of-below.ensures);
    }
