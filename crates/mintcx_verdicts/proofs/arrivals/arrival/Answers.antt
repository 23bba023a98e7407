use Rattle.std.proofs.Common.{◌≡◌, ◌+ℤ◌, ◌*ℤ◌, ap, ◌∙◌}
use Rattle.mintc_timing.specs.Departures.{departure}
use Rattle.mintc_timing.specs.Design.{element_at, pair_at}
use Rattle.mintcx_verdicts.proofs.ArrivalLaws.{arrives_at, arrives_in_time, travel_fits, turn_fits}
use Rattle.mintcx_verdicts.proofs.arrivals.arrival.Goals as goal

pub overflow_add-result : goal.overflow_add-result
overflow_add-result c = travel_fits c.departure.result c.travel.result c.departure.ensures.range c.travel.ensures.range

pub overflow_add-result-2 : goal.overflow_add-result-2
overflow_add-result-2 c = turn_fits c.departure.result c.travel.result c.turned.result c.departure.ensures.range c.travel.ensures.range c.turned.ensures.range

pub returns-clause-value : goal.returns-clause-value
returns-clause-value c =
    let t = c.args.judging.now.told.system.now in
    let d = c.args.judging.now.departures.now in
    let p = pair_at t c.args.pair in
    let travels = ((element_at t.flat p.from).dq_max +ℤ p.max) *ℤ c.args.judging.now.told.schedule.now.den in
    let leaves : c.departure.result ≡ departure d (pair_at t c.args.pair).from = c.departure.ensures.value ∙ ap (λ p. departure d p.from) c.pair-joined.ensures.value in
    arrives_at c.departure.result c.travel.result c.turned.result c.departure.ensures.range c.travel.ensures.range c.turned.ensures.range
    ∙ ap (λ x. x +ℤ c.travel.result +ℤ c.turned.result) leaves
    ∙ ap (λ x. departure d (pair_at t c.args.pair).from +ℤ x +ℤ c.turned.result) c.travel.ensures.value
    ∙ ap (λ x. departure d (pair_at t c.args.pair).from +ℤ travels +ℤ x) c.turned.ensures.value

pub returns-clause-range : goal.returns-clause-range
returns-clause-range c =
    arrives_in_time c.departure.result c.travel.result c.turned.result c.departure.ensures.range c.travel.ensures.range c.turned.ensures.range
