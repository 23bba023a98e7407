use Rattle.std.proofs.Common.{◌++◌, ◌∷◌, [], ℤ, ap, ◌∙◌, w64}
use Rattle.std.proofs.lemmas.Int.{to_z-of_z}
use Rattle.std.proofs.lemmas.Result.{on_ok_weaker}
use Rattle.mintcx_sdc.specs.Texts.{cycle_text, from_text}
use Rattle.mintcx_sdc.proofs.WrittenLaws.{in_three}
use Rattle.mintcx_sdc.proofs.text.put_title.Goals as goal

pub returns : goal.returns
returns c =
    let cycle = to_z-of_z w64 c.args.cycle c.ranges.cycle in
    on_ok_weaker c.put.result
    (λ e. in_three c.args.lines.now c.put_origin.new.lines c.put_cycle.new.lines c.put.new.self (from_text c.args.titles.now) (cycle_text c.args.cycle) (10 ∷ [])
    c.in_ok-put_origin.ensures (c.in_ok-put_cycle.ensures ∙ ap (λ (x : ℤ). c.put_origin.new.lines ++ cycle_text x) cycle) e)
    c.put.ensures.ok
