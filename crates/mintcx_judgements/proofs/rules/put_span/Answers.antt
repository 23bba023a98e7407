use Rattle.std.proofs.Common.{◌≡◌, ℤ, ◌++◌, ap, ◌∙◌}
use Rattle.std.specs.Prelude.{codes}
use Rattle.std.proofs.lemmas.Result.{on_ok_weaker}
use Rattle.mintc_text.specs.Lines.{ended}
use Rattle.mintc_timing.specs.Clocking.{width_of}
use Rattle.mintcx_frame.specs.Names.{phase_name}
use Rattle.mintcx_judgements.specs.Shown.{about, measured, timed}
use Rattle.mintcx_judgements.proofs.WideLaws.{read_cycle, wide}
use Rattle.mintcx_judgements.proofs.WrittenLaws.{line_of_two_then}
use Rattle.mintcx_judgements.proofs.rules.put_span.Goals as goal

pub returns : goal.returns
returns c =
    let unit = c.args.told.now.unit in
    let s = c.args.told.now.schedule.now in
    let p = c.args.excess.phase in
    let first : wide c.width-wide.result ≡ width_of s p = read_cycle c.width-wide.result c.width-wide.ensures.range ∙ c.width-wide.ensures.value in
    let second : wide c.cycle.result ≡ s.cycle = read_cycle c.cycle.result c.cycle.ensures.range ∙ c.cycle.ensures.value in
    let claim = about (codes "  span   ") (phase_name c.args.told.now.system.now.flat p) (codes " is open for ") in
    let line = λ (x : ℤ) (y : ℤ). ended (timed unit s (codes "         it is ") x ++ timed unit s (codes " wide, the cycle is ") y) in
    on_ok_weaker c.put_times.result
    (λ e. line_of_two_then c.args.lines.now (measured unit s claim c.args.excess.amount) (codes " more than a cycle")
    (timed unit s (codes "         it is ") (width_of s p) ++ timed unit s (codes " wide, the cycle is ") s.cycle)
    c.in_ok-put_claim.ensures c.in_ok-put.ensures.ok
    (e ∙ ap (λ x. c.put.new.self ++ line x (wide c.cycle.result)) first ∙ ap (λ y. c.put.new.self ++ line (width_of s p) y) second))
    c.put_times.ensures
