use Rattle.std.proofs.Common.{◌≡◌, ◌++◌, ◌∷◌, [], ◌∙◌, true, List, ap, sym, subst}
use Rattle.mintc_timing.specs.declared.parts.Pair.{Pair}
use Rattle.mintc_timing.specs.Design.{Design, element_count, pair_at}
use Rattle.mintcx_lint.specs.Latches.{IsTally, joins_latches}
use Rattle.mintcx_lint.proofs.TallyLaws.{passed}
use Rattle.mintcx_lint.proofs.latches.with_number.Goals as goal

pub returns-then-joins_latches-clause-tallied : goal.returns-then-joins_latches-clause-tallied
returns-then-joins_latches-clause-tallied c = λ pairs h.
    let t = c.args.system.now in
    let storage = c.args.storage in
    let here = c.pair-pair.result.now in
    let pair = pair_at t c.args.number in
    let is : joins_latches t.flat storage pair ≡ true =
    ap (λ (p : Pair). joins_latches t.flat storage p) (sym c.pair-pair.ensures.value) ∙ ap (λ (d : Design). joins_latches d storage here) (sym c.flat.ensures.value)
    ∙ sym c.joins_latches.ensures ∙ c.if-joins_latches.true in
    passed (joins_latches t.flat storage) pairs pair c.with_pair.result is
    (subst (λ (p : Pair). IsTally (pairs ++ p ∷ []) c.with_pair.result) c.pair-pair.ensures.value (c.with_pair.ensures.tallied pairs h))

pub returns-then-joins_latches-clause-inside : goal.returns-then-joins_latches-clause-inside
returns-then-joins_latches-clause-inside c = λ h.
    let t = c.args.system.now in
    c.with_pair.ensures.inside (element_count t.flat) c.pair-pair.ensures.from c.pair-pair.ensures.to h
