use Rattle.std.proofs.Common.{◌≡◌, ◌++◌, ap, ◌∙◌, sym}
use Rattle.std.proofs.lemmas.List.{get_or_read}
use Rattle.std.proofs.lemmas.Result.{on_ok_weaker}
use Rattle.mintc_text.specs.Lines.{ended}
use Rattle.mintc_clock.specs.declared.clock.PhaseDef.{PhaseDef}
use Rattle.mintcx_sdc.specs.Clocks.{clock_place, no_phase, own_line, phase_at}
use Rattle.mintcx_sdc.proofs.ClockLaws.{its_line, no_lines}
use Rattle.mintcx_sdc.proofs.clocks.put_phase.Goals as goal

pub returns-then-clock_place-at : goal.returns-then-clock_place-at
returns-then-clock_place-at c =
    let phases = c.args.phases.now in
    let at = c.args.at in
    no_lines c.args.lines.now (clock_place phases at) at (own_line (phase_at phases at) c.args.schedule.now at)
    (λ same. c.if-clock_place-at.true (c.clock_place.ensures.value ∙ same))

pub returns : goal.returns
returns c =
    let phases = c.args.phases.now in
    let s = c.args.schedule.now in
    let at = c.args.at in
    let item = c.index-phases-at.result in
    let is : item ≡ phase_at phases at = get_or_read phases at item c.requires.inside c.index-phases-at.is no_phase in
    on_ok_weaker c.put_own.result
    (λ (e : c.put_own.new.lines ≡ c.args.lines.now ++ ended (own_line item s at)).
    its_line c.args.lines.now c.put_own.new.lines (clock_place phases at) at (own_line (phase_at phases at) s at)
    (sym c.clock_place.ensures.value ∙ c.if-clock_place-at.false)
    (e ∙ ap (λ (p : PhaseDef). c.args.lines.now ++ ended (own_line p s at)) is))
    c.put_own.ensures
