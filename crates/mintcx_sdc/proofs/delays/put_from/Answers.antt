use Rattle.std.proofs.Common.{◌++◌, List, ℕ, ap, ◌∙◌}
use Rattle.std.proofs.lemmas.List.{get_or_default}
use Rattle.std.proofs.lemmas.Result.{on_ok_weaker}
use Rattle.mintc_clock.specs.declared.clock.PhaseDef.{PhaseDef}
use Rattle.mintcx_sdc.specs.Delays.{clock_name, edge_text, falls, way_word}
use Rattle.mintcx_sdc.specs.Times.{braced}
use Rattle.mintcx_sdc.specs.Clocks.{no_phase, phase_at}
use Rattle.mintcx_sdc.proofs.WrittenLaws.{in_three}
use Rattle.mintcx_sdc.proofs.delays.put_from.Goals as goal

pub returns : goal.returns
returns c =
    let phases = c.args.phases.now in
    let way = c.args.way in
    let at = c.args.at in
    on_ok_weaker c.put-2.result
    (λ e. in_three c.args.lines.now c.put.new.self c.put_braced.new.lines c.put-2.new.self
    (way_word way) (braced (clock_name phases at)) (edge_text (falls way (phase_at phases at).high))
    (c.in_ok-put.ensures.ok ∙ ap (λ (v : List ℕ). c.args.lines.now ++ v) c.way_word.ensures)
    (c.in_ok-put_braced.ensures ∙ ap (λ (v : List ℕ). c.put.new.self ++ braced v) c.clock_name.ensures)
    (e ∙ ap (λ (v : List ℕ). c.put_braced.new.lines ++ v) (c.edge_text.ensures ∙ ap edge_text (c.falls.ensures ∙ ap (λ (p : PhaseDef). falls way p.high) (get_or_default phases at c.index-phases-at.result no_phase c.requires)))))
    c.put-2.ensures.ok
