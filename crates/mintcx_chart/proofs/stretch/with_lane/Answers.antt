use Rattle.std.proofs.Common.{◌≡◌, ◌∙◌, ap, sym, arith}
use Rattle.std.specs.Int.{int_max, int_min}
use Rattle.std.proofs.lemmas.Grind.{common_steps}
use Rattle.mintcx_chart.specs.Stretches.{closes_at, opens_at}
use Rattle.mintcx_chart.proofs.StretchLaws.{lane_fold}
use Rattle.mintcx_chart.proofs.WideLaws.{read_wide}
use Rattle.mintcx_chart.proofs.stretch.with_lane.Goals as goal

pub returns-clause-least : goal.returns-clause-least
returns-clause-least c =
    let lane = c.args.lane.now in
    let cycle = c.args.cycle in
    let b : c.with_time-timed.result.first ≡ int_min c.args.span.first lane.at = grind (arith, common_steps, c.with_time-timed.ensures.least) in
    let o : c.own_window-window.result.first ≡ opens_at cycle lane = grind (arith, common_steps, c.own_window-window.ensures.opens) in
    let k : c.own_window-window.result.last ≡ closes_at cycle lane = grind (arith, common_steps, c.own_window-window.ensures.closes) in
    let d : c.with_time.result.first ≡ int_min c.with_time-timed.result.first c.own_window-window.result.first = grind (arith, common_steps, c.with_time.ensures.least) in
    let e : c.with_time-2.result.first ≡ int_min c.with_time.result.first c.own_window-window.result.last = grind (arith, common_steps, c.with_time-2.ensures.least) in
    lane_fold int_min cycle lane c.args.span.first c.with_time-timed.result.first c.with_time.result.first c.with_time-2.result.first c.own_window-window.result.first c.own_window-window.result.last
    (sym c.is_clock.ensures ∙ c.if-is_clock.false) b o k d e

pub returns-clause-greatest : goal.returns-clause-greatest
returns-clause-greatest c =
    let lane = c.args.lane.now in
    let cycle = c.args.cycle in
    let window = c.own_window-window.result in
    let b : c.with_time-timed.result.last ≡ int_max c.args.span.last lane.at = c.with_time-timed.ensures.greatest ∙ ap (λ v. int_max c.args.span.last v) (read_wide lane.at c.requires.lane.at) in
    let o : window.first ≡ opens_at cycle lane = grind (arith, common_steps, c.own_window-window.ensures.opens) in
    let k : window.last ≡ closes_at cycle lane = grind (arith, common_steps, c.own_window-window.ensures.closes) in
    let d : c.with_time.result.last ≡ int_max c.with_time-timed.result.last window.first = c.with_time.ensures.greatest ∙ ap (λ v. int_max c.with_time-timed.result.last v) (read_wide window.first c.own_window-window.ensures.first) in
    let e : c.with_time-2.result.last ≡ int_max c.with_time.result.last window.last = c.with_time-2.ensures.greatest ∙ ap (λ v. int_max c.with_time.result.last v) (read_wide window.last c.own_window-window.ensures.last) in
    lane_fold int_max cycle lane c.args.span.last c.with_time-timed.result.last c.with_time.result.last c.with_time-2.result.last window.first window.last
    (sym c.is_clock.ensures ∙ c.if-is_clock.false) b o k d e
