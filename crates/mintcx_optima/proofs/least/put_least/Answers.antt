use Rattle.std.proofs.Common.{◌≡◌, ◌++◌, ◌∷◌, [], ap, ◌∙◌}
use Rattle.std.proofs.lemmas.Result.{on_ok_weaker}
use Rattle.mintc_fraction.specs.Ratio.{Ratio}
use Rattle.mintcx_amounts.specs.declared.unit.Unit.{Unit}
use Rattle.mintcx_frame.specs.Ends.{foot_text, head_text}
use Rattle.mintcx_frame.specs.Phases.{phases_text}
use Rattle.mintcx_optima.specs.Least.{cycle_of, deciding_text, unit_of}
use Rattle.mintcx_optima.proofs.WrittenLaws.{in_six, in_three}
use Rattle.mintcx_optima.proofs.least.put_least.Goals as goal

pub returns : goal.returns
returns c =
    let old = c.args.lines.now in
    let flat = c.args.flat.now in
    let view = c.args.view.now in
    let s = c.args.decided.now.schedule.now in
    let verdict = c.args.opening.now.verdict.now in
    let second = c.args.opening.now.second.now in
    let head_is = head_text verdict (cycle_of s) view in
    let phases_are = phases_text flat s (unit_of s view) in
    let deciding = deciding_text flat s c.args.decided.now.departures.now c.args.decided.now.stages.now view in
    let head = c.in_ok-put_head.ensures ∙ ap (λ (x : Ratio). old ++ head_text verdict x view) c.cycle_of.ensures.value in
    let phases = c.in_ok-put_phases.ensures ∙ ap (λ (x : Unit). c.put-2.new.self ++ phases_text flat s x) c.unit_of-unit.ensures in
    let begun = in_six old c.put_head.new.lines c.put.new.self c.put-2.new.self c.put_phases.new.lines c.put-3.new.self c.put_deciding.new.lines
    head_is second (10 ∷ []) phases_are (10 ∷ []) deciding
    head c.in_ok-put.ensures.ok c.in_ok-put-2.ensures.ok phases c.in_ok-put-3.ensures.ok c.in_ok-put_deciding.ensures in
    on_ok_weaker c.put_foot.result
    (λ e. in_three old c.put_deciding.new.lines c.put-4.new.self c.put_foot.new.lines
    (head_is ++ second ++ 10 ∷ [] ++ phases_are ++ 10 ∷ [] ++ deciding) (10 ∷ []) (foot_text (unit_of s view) [])
    begun c.in_ok-put-4.ensures.ok (e ∙ ap (λ (x : Unit). c.put-4.new.self ++ foot_text x []) c.unit_of-unit.ensures))
    c.put_foot.ensures
