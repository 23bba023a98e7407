use Rattle.std.proofs.Common.{◌≡◌, ◌*ℤ◌, ◌∙◌}
use Rattle.mintcx_chart.proofs.WideLaws.{laps_is, opening_high, opening_is, opening_low, read_numerator}
use Rattle.mintcx_chart.proofs.stretch.opening.Goals as goal

pub returns-clause-value : goal.returns-clause-value
returns-clause-value c =
    let lane = c.args.lane.now in
    opening_is c.from.result c.laps_time.result lane.start (lane.lap *ℤ c.args.cycle) (c.from.ensures ∙ read_numerator lane.start c.requires.lane.start)
    (laps_is c.laps_time.result lane.lap c.args.cycle c.laps_time.ensures.value c.requires.lane.lap c.requires.cycle) c.requires.lane.start c.laps_time.ensures.low c.laps_time.ensures.high

pub returns-clause-low : goal.returns-clause-low
returns-clause-low c =
    let lane = c.args.lane.now in
    opening_low c.from.result c.laps_time.result lane.start (lane.lap *ℤ c.args.cycle) (c.from.ensures ∙ read_numerator lane.start c.requires.lane.start)
    (laps_is c.laps_time.result lane.lap c.args.cycle c.laps_time.ensures.value c.requires.lane.lap c.requires.cycle) c.requires.lane.start c.laps_time.ensures.low c.laps_time.ensures.high

pub returns-clause-high : goal.returns-clause-high
returns-clause-high c =
    let lane = c.args.lane.now in
    opening_high c.from.result c.laps_time.result lane.start (lane.lap *ℤ c.args.cycle) (c.from.ensures ∙ read_numerator lane.start c.requires.lane.start)
    (laps_is c.laps_time.result lane.lap c.args.cycle c.laps_time.ensures.value c.requires.lane.lap c.requires.cycle) c.requires.lane.start c.laps_time.ensures.low c.laps_time.ensures.high
