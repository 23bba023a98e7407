use Rattle.std.proofs.Common.{◌≡◌, ◌++◌, ◌∷◌, [], ap, ◌∙◌}
use Rattle.std.specs.Prelude.{codes}
use Rattle.std.proofs.lemmas.Result.{on_ok_weaker}
use Rattle.mintcx_frame.specs.Ends.{foot_text, head_text}
use Rattle.mintcx_frame.specs.Phases.{phases_text}
use Rattle.mintcx_optima.specs.Least.{cycle_of, unit_of}
use Rattle.mintcx_optima.proofs.WrittenLaws.{in_five}
use Rattle.mintcx_optima.proofs.short.put_right.Goals as goal

pub returns : goal.returns
returns c =
    let s = c.args.schedule.now in
    let view = c.args.view.now in
    let unit = unit_of s view in
    let head = c.in_ok-put_head.ensures ∙ ap (λ x. c.args.lines.now ++ head_text (codes "right") x view) c.cycle_of.ensures.value in
    let phases = c.in_ok-put_phases.ensures ∙ ap (λ x. c.put.new.self ++ phases_text c.args.flat.now s x) c.unit_of-unit.ensures in
    on_ok_weaker c.put_foot.result
    (λ e. in_five c.args.lines.now c.put_head.new.lines c.put.new.self c.put_phases.new.lines c.put-2.new.self c.put_foot.new.lines
    (head_text (codes "right") (cycle_of s) view) (10 ∷ []) (phases_text c.args.flat.now s unit) (10 ∷ []) (foot_text unit [])
    head c.in_ok-put.ensures.ok phases c.in_ok-put-2.ensures.ok (e ∙ ap (λ x. c.put-2.new.self ++ foot_text x []) c.unit_of-unit.ensures))
    c.put_foot.ensures
