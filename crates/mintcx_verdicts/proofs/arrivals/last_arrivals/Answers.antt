use Rattle.std.proofs.Common.{◌≡◌, ◌<◌, List, None, length, w64, to_z, of_z, ap, ◌∙◌, get_or, arith, rules, subst, SFits}
use Rattle.std.proofs.lemmas.Int.{to_z-of_z}
use Rattle.std.proofs.lemmas.List.{get_or_read}
use Rattle.mintc_timing.specs.declared.parts.Pair.{Pair}
use Rattle.mintc_timing.specs.Design.{pair_at}
use Rattle.mintc_timing.specs.Departures.{late_arrival}
use Rattle.mintc_timing.specs.Extremes.{greater_of}
use Rattle.mintc_timing.proofs.SharedFitting.{read_time}
use Rattle.mintcx_verdicts.proofs.LastLaws.{last_more}
use Rattle.mintcx_verdicts.proofs.arrivals.last_arrivals.Goals as goal

pub loop-pair-preserved : goal.loop-pair-preserved
loop-pair-preserved c =
    let t = c.args.judging.now.told.system.now in
    let s = c.args.judging.now.told.schedule.now in
    let d = c.args.judging.now.departures.now in
    let k = c.loop-pair.pair in
    let found = c.loop-pair.found.items in
    let to = c.pair.result.now.to in
    let read : c.index-last.result.now ≡ get_or found to None =
    get_or_read found to c.index-last.result.now (omega (arith, c.loop-pair.invariant.count, c.pair.ensures.to)) c.index-last.ensures None in
    let fits : SFits w64 c.later.result = search rules in
    let time : to_z w64 (of_z w64 c.later.result) ≡ greater_of (late_arrival t.flat s d (pair_at t k)) (get_or found to None) =
    to_z-of_z w64 c.later.result fits ∙ c.later.ensures
    ∙ ap (λ x. greater_of x c.index-last.result.now) (read_time c.arrival.result c.arrival.ensures.range ∙ c.arrival.ensures.value)
    ∙ ap (λ o. greater_of (late_arrival t.flat s d (pair_at t k)) o) read in
    last_more t s d k found to (to_z w64 (of_z w64 c.later.result)) c.loop-pair.invariant
    (subst (λ (v : List Pair). k < length v) c.pairs-pair-end.ensures.value c.loop-pair-test.true)
    (ap (λ p. p.to) c.pair.ensures.value) c.pair.ensures.to time
