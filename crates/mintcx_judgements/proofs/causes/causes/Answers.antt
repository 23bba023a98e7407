use Rattle.std.proofs.Common.{◌≡◌, ◌<◌, ◌∙◌, ℕ, ℤ, length, ap, sym, get_or, arith}
use Rattle.std.specs.Prelude.{None}
use Rattle.std.proofs.lemmas.List.{get_or_read}
use Rattle.mintcx_judgements.specs.Sources.{greater_by, number_by}
use Rattle.mintcx_judgements.proofs.CauseLaws.{greatest_more, inside_some, some_inside}
use Rattle.mintcx_judgements.proofs.causes.causes.Goals as goal

pub greater-requires-clause-best : goal.greater-requires-clause-best
greater-requires-clause-best c =
    let found = c.loop-number.found.items in
    let to = c.pair.result.now.to in
    let read : c.index-best.result.now ≡ get_or found to None =
    get_or_read found to c.index-best.result.now (omega (arith, c.loop-number.invariant.count, c.pair.ensures.to)) c.index-best.ensures None in
    inside_some c.index-best.result.now _ (λ n e. c.loop-number.invariant.inside to n c.pair.ensures.to (sym read ∙ e))

pub loop-number-preserved : goal.loop-number-preserved
loop-number-preserved c =
    let t = c.args.told.now.system.now in
    let time : ℕ → ℤ = number_by c.args.sought t c.args.told.now.schedule.now c.args.departures.now in
    let k = c.loop-number.number in
    let found = c.loop-number.found.items in
    let to = c.pair.result.now.to in
    let read : c.index-best.result.now ≡ get_or found to None =
    get_or_read found to c.index-best.result.now (omega (arith, c.loop-number.invariant.count, c.pair.ensures.to)) c.index-best.ensures None in
    greatest_more t time k found to c.greater.result c.loop-number.invariant (ap (λ p. p.to) c.pair.ensures.value) c.pair.ensures.to
    (c.greater.ensures.value ∙ ap (λ o. greater_by time o k) read)
    (some_inside c.greater.result (λ n. n < length t.pairs) c.greater.ensures.inside)
