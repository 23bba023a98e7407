use Rattle.std.proofs.Common.{◌≡◌, ◌++◌, ◌∷◌, [], ap, ◌∙◌, pos, arith, to_z, of_z}
use Rattle.std.specs.Int.{w128}
use Rattle.std.proofs.lemmas.Int.{ints}
use Rattle.std.proofs.lemmas.Result.{on_ok_weaker}
use Rattle.mintc_fraction.specs.Ratio.{over}
use Rattle.mintcx_amounts.specs.declared.unit.Unit.{Unit}
use Rattle.mintcx_frame.specs.Ends.{foot_text, unit_for}
use Rattle.mintcx_optima.specs.Never.{asks_text, claim_text, greatest_delay, stages_text, unit_of}
use Rattle.mintcx_optima.proofs.WrittenLaws.{in_six}
use Rattle.mintcx_optima.proofs.never.put_never.Goals as goal

pub returns : goal.returns
returns c =
    let stages = c.args.stages.now in
    let view = c.args.view.now in
    let flat = c.args.flat.now in
    let greatest : to_z w128 (of_z w128 c.from.result) ≡ greatest_delay stages =
    omega (arith, ints, c.from.ensures, c.greatest_delay.ensures.value, c.greatest_delay.ensures.least, c.greatest_delay.ensures.most) in
    let unit : c.unit_for-unit.result ≡ unit_of stages view =
    c.unit_for-unit.ensures ∙ ap (unit_for view.unit) (c.new.ensures ∙ ap (λ x. over x (pos 1)) greatest) in
    let asks = c.in_ok-put_asks.ensures ∙ ap (λ (x : Unit). c.put.new.self ++ asks_text stages x) unit in
    let table = c.in_ok-put_stages.ensures ∙ ap (λ (x : Unit). c.put_asks.new.lines ++ stages_text flat x stages view.limit) unit in
    on_ok_weaker c.put_foot.result
    (λ e. in_six c.args.lines.now c.put_claim.new.lines c.put.new.self c.put_asks.new.lines c.put_stages.new.lines c.put-2.new.self c.put_foot.new.lines
    (claim_text c.args.claim.now view) (10 ∷ []) (asks_text stages (unit_of stages view)) (stages_text flat (unit_of stages view) stages view.limit) (10 ∷ [])
    (foot_text (unit_of stages view) [])
    c.in_ok-put_claim.ensures c.in_ok-put.ensures.ok asks table c.in_ok-put-2.ensures.ok (e ∙ ap (λ (x : Unit). c.put-2.new.self ++ foot_text x []) unit))
    c.put_foot.ensures
