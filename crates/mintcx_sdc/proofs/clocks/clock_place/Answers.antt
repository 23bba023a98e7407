use Rattle.std.proofs.Common.{◌≡◌, List, ℕ, length, ap, ◌∙◌, sym}
use Rattle.std.specs.Prelude.{Option, find, unwrap_or}
use Rattle.std.specs.List.{range_with_len}
use Rattle.std.proofs.lemmas.List.{get_or_default, get_or_read}
use Rattle.mintc_clock.specs.declared.clock.PhaseDef.{PhaseDef}
use Rattle.mintcx_sdc.specs.Clocks.{is_high_at, is_high_on, no_phase, phase_at}
use Rattle.mintcx_sdc.proofs.FirstLaws.{found, none_left, passed}
use Rattle.mintcx_sdc.proofs.clocks.clock_place.Goals as goal

pub loop-place-preserved : goal.loop-place-preserved
loop-place-preserved c =
    let phases = c.args.phases.now in
    let port = c.bytes-port.result.now in
    let place = c.loop-place.place in
    let item = c.index-phases-place.result in
    passed (is_high_at phases port) (length phases) place c.loop-place-test.true
    (ap (is_high_on port) (sym (get_or_read phases place item c.loop-place-test.true c.index-phases-place.is no_phase)) ∙ sym c.is_high_on.ensures ∙ c.if-is_high_on.false)
    c.loop-place.invariant

pub returns-then-is_high_on-clause-value : goal.returns-then-is_high_on-clause-value
returns-then-is_high_on-clause-value c =
    let phases = c.args.phases.now in
    let port = c.bytes-port.result.now in
    let at = c.args.at in
    let place = c.loop-place.place in
    let item = c.index-phases-place.result in
    let named : port ≡ (phase_at phases at).port = c.bytes-port.ensures ∙ ap (λ (p : PhaseDef). p.port) (get_or_default phases at c.index-phases-at.result no_phase c.requires) in
    sym (ap (λ (o : Option ℕ). unwrap_or o at)
    (found (is_high_at phases port) (length phases) place c.loop-place-test.true
    (ap (is_high_on port) (sym (get_or_read phases place item c.loop-place-test.true c.index-phases-place.is no_phase)) ∙ sym c.is_high_on.ensures ∙ c.if-is_high_on.true)
    c.loop-place.invariant))
    ∙ ap (λ (q : List ℕ). unwrap_or (find (is_high_at phases q) (range_with_len 0 (length phases))) at) named

pub returns-clause-value : goal.returns-clause-value
returns-clause-value c =
    let phases = c.args.phases.now in
    let port = c.bytes-port.result.now in
    let at = c.args.at in
    let named : port ≡ (phase_at phases at).port = c.bytes-port.ensures ∙ ap (λ (p : PhaseDef). p.port) (get_or_default phases at c.index-phases-at.result no_phase c.requires) in
    sym (ap (λ (o : Option ℕ). unwrap_or o at) (none_left (is_high_at phases port) (length phases) c.loop-place.place c.loop-place-test.false c.loop-place.invariant))
    ∙ ap (λ (q : List ℕ). unwrap_or (find (is_high_at phases q) (range_with_len 0 (length phases))) at) named
