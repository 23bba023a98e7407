use Rattle.std.proofs.Common.{◌≡◌, ◌++◌, ◌∷◌, [], ap, ◌∙◌, pos, arith, to_z, of_z}
use Rattle.std.specs.Prelude.{codes}
use Rattle.std.specs.Int.{w128}
use Rattle.std.proofs.lemmas.Int.{ints}
use Rattle.std.proofs.lemmas.Result.{on_ok_weaker}
use Rattle.mintc_fraction.specs.Ratio.{Ratio, over}
use Rattle.mintcx_amounts.specs.declared.unit.Unit.{Unit}
use Rattle.mintcx_frame.specs.Ends.{foot_text, head_text, unit_for}
use Rattle.mintcx_optima.specs.Cycles.{hops_text, needs_text}
use Rattle.mintcx_optima.proofs.WrittenLaws.{in_six}
use Rattle.mintcx_optima.proofs.short.put_short.Goals as goal

pub returns : goal.returns
returns c =
    let old = c.args.lines.now in
    let stages = c.args.stages.now in
    let view = c.args.view.now in
    let flat = c.args.flat.now in
    let cycle : Ratio = over (pos c.args.cycle) (pos 1) in
    let time : to_z w128 (of_z w128 c.from.result) ≡ pos c.args.cycle = omega (arith, ints, c.from.ensures, c.ranges.cycle) in
    let is : c.new-cycle.result ≡ cycle = c.new-cycle.ensures ∙ ap (λ x. over x (pos 1)) time in
    let unit : c.unit_for-unit.result ≡ unit_for view.unit cycle = c.unit_for-unit.ensures ∙ ap (unit_for view.unit) is in
    let head = c.in_ok-put_head.ensures ∙ ap (λ (x : Ratio). old ++ head_text (codes "short") x view) is in
    let needs = c.in_ok-put_needs.ensures ∙ ap (λ (x : Unit). c.put.new.self ++ needs_text stages x) unit in
    let hops = c.in_ok-put_hops.ensures ∙ ap (λ (x : Unit). c.put_needs.new.lines ++ hops_text flat x stages view.limit) unit in
    on_ok_weaker c.put_foot.result
    (λ e. in_six old c.put_head.new.lines c.put.new.self c.put_needs.new.lines c.put_hops.new.lines c.put-2.new.self c.put_foot.new.lines
    (head_text (codes "short") cycle view) (10 ∷ []) (needs_text stages (unit_for view.unit cycle)) (hops_text flat (unit_for view.unit cycle) stages view.limit) (10 ∷ [])
    (foot_text (unit_for view.unit cycle) [])
    head c.in_ok-put.ensures.ok needs hops c.in_ok-put-2.ensures.ok (e ∙ ap (λ (x : Unit). c.put-2.new.self ++ foot_text x []) unit))
    c.put_foot.ensures
