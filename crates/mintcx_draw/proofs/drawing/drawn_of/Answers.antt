use Rattle.std.proofs.Common.{◌≡◌, ◌≤◌, ◌<◌, ◌+◌, ℕ, ℤ, List, Some, None, length, min, slice_index_or, arith, ap, ◌∙◌, subst, sym, w64}
use Rattle.std.specs.Prelude.{All}
use Rattle.std.proofs.lemmas.Int.{to_z-of_z}
use Rattle.mintcx_chain.specs.declared.rows.Row.{Row}
use Rattle.mintcx_chain.specs.Rows.{AreInTime}
use Rattle.mintcx_chart.specs.declared.lanes.Lane.{Lane}
use Rattle.mintcx_chart.specs.Stretches.{IsShown, greatest_of, least_of, times_of}
use Rattle.mintcx_draw.specs.Drawings.{IsOfRows, next_time}
use Rattle.mintcx_draw.specs.Lanes.{drawn_count, IsSoon}
use Rattle.mintcx_optima.specs.Tables.{no_row}
use Rattle.mintcx_draw.proofs.ChainLaws.{rows_count, rows_soon}
use Rattle.mintcx_draw.proofs.ScaleLaws.{cycle_in, next_in_time, next_read, picture_drawn, shown_as, too_long_drawn}
use Rattle.mintcx_draw.proofs.WideLaws.{chain_drawn, keep_drawn, wide}
use Rattle.mintcx_draw.proofs.drawing.drawn_of.Goals as goal

pub lanes_of-requires-clause-staged : goal.lanes_of-requires-clause-staged
lanes_of-requires-clause-staged c =
    let ring = c.requires.ring in
    let told = c.args.told.now in
    let same = c.items.ensures ∙ c.in_ok-rows.ensures.value in
    record {
      each = ring.each;
      short = ring.short;
      counted = c.requires.counted;
      times = subst AreInTime (sym c.items.ensures) c.in_ok-rows.ensures.times;
      few = subst (All IsSoon) (sym same) (rows_soon told.flat.now told.schedule.now c.args.departures.now c.args.stages.now ring.short ring.most);
      one_more = ap (λ (rows : List Row). length rows) same ∙ rows_count told.flat.now told.schedule.now c.args.departures.now c.args.stages.now;
      some = ring.some;
    }

pub bounds-items-min : goal.bounds-items-min
bounds-items-min c =
    let told = c.args.told.now in
    let same = c.items-2.ensures ∙ c.in_ok-rows.ensures.value in
    omega (arith, c.min.ensures, ap (λ (rows : List Row). length rows) same, rows_count told.flat.now told.schedule.now c.args.departures.now c.args.stages.now)

pub scale_for-requires-clause-first : goal.scale_for-requires-clause-first
scale_for-requires-clause-first c =
    let told = c.args.told.now in
    let at = (slice_index_or c.items-2.result.now c.min.result no_row).at in
    keep_drawn at (chain_drawn at (next_in_time told.flat.now told.schedule.now c.args.departures.now c.args.stages.now c.items-2.result.now c.min.result
    (c.items-2.ensures ∙ c.in_ok-rows.ensures.value) (subst AreInTime (sym c.items-2.ensures) c.in_ok-rows.ensures.times) c.min.ensures))

pub scale_for-requires-clause-last : goal.scale_for-requires-clause-last
scale_for-requires-clause-last c =
    let told = c.args.told.now in
    let at = (slice_index_or c.items-2.result.now c.min.result no_row).at in
    keep_drawn at (chain_drawn at (next_in_time told.flat.now told.schedule.now c.args.departures.now c.args.stages.now c.items-2.result.now c.min.result
    (c.items-2.ensures ∙ c.in_ok-rows.ensures.value) (subst AreInTime (sym c.items-2.ensures) c.in_ok-rows.ensures.times) c.min.ensures))

pub returns-in-Some : goal.returns-in-Some
returns-in-Some c =
    let told = c.args.told.now in
    let s = told.schedule.now in
    let rows = c.items.result.now in
    let same = c.items.ensures ∙ c.in_ok-rows.ensures.value in
    let at = (slice_index_or c.items-2.result.now c.min.result no_row).at in
    let time = next_in_time told.flat.now s c.args.departures.now c.args.stages.now c.items-2.result.now c.min.result
    (c.items-2.ensures ∙ c.in_ok-rows.ensures.value) (subst AreInTime (sym c.items-2.ensures) c.in_ok-rows.ensures.times) c.min.ensures in
    let next = next_read c.args.stages.now rows c.items-2.result.now c.min.result (c.items-2.ensures ∙ sym c.items.ensures) c.min.ensures time in
    picture_drawn told.flat.now s c.args.departures.now c.args.stages.now rows c.in_ok-shown.shown (wide at) same c.in_ok-shown.ensures next c.requires.cycle
    c.in-Some.scale told.unit c.in_ok-text-in-Some.text c.in-Some.ensures.scale
    (shown_as s.den s.cycle (wide at) c.deref.result.now c.in_ok-shown.shown.lanes.items (Some c.in-Some.scale) c.requires.clocked.in_range.den (cycle_in s.cycle c.requires.cycle c.requires.clocked.in_range.cycle) c.deref.ensures.value c.in-Some.ensures.shown)
    c.in_ok-text-in-Some.ensures

pub returns : goal.returns
returns c =
    let told = c.args.told.now in
    let s = told.schedule.now in
    let rows = c.items.result.now in
    let same = c.items.ensures ∙ c.in_ok-rows.ensures.value in
    let at = (slice_index_or c.items-2.result.now c.min.result no_row).at in
    let time = next_in_time told.flat.now s c.args.departures.now c.args.stages.now c.items-2.result.now c.min.result
    (c.items-2.ensures ∙ c.in_ok-rows.ensures.value) (subst AreInTime (sym c.items-2.ensures) c.in_ok-rows.ensures.times) c.min.ensures in
    let next = next_read c.args.stages.now rows c.items-2.result.now c.min.result (c.items-2.ensures ∙ sym c.items.ensures) c.min.ensures time in
    too_long_drawn told.flat.now s c.args.departures.now c.args.stages.now rows c.in_ok-shown.shown (wide at) same c.in_ok-shown.ensures next c.requires.cycle
    (shown_as s.den s.cycle (wide at) c.deref.result.now c.in_ok-shown.shown.lanes.items None c.requires.clocked.in_range.den (cycle_in s.cycle c.requires.cycle c.requires.clocked.in_range.cycle) c.deref.ensures.value c.in-None.ensures.shown)
