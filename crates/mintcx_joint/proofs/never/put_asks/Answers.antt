use Rattle.std.proofs.Common.{◌≡◌, ◌++◌, ◌∷◌, [], ap, ◌∙◌, pos, length, arith, to_z, of_z}
use Rattle.std.specs.Prelude.{codes}
use Rattle.std.specs.Int.{w128}
use Rattle.std.proofs.lemmas.Int.{ints}
use Rattle.std.proofs.lemmas.Result.{on_ok_weaker}
use Rattle.mintc_fraction.specs.Ratio.{over}
use Rattle.mintcx_chain.specs.Sums.{delay_of}
use Rattle.mintcx_frame.specs.Ends.{time_text}
use Rattle.mintcx_optima.specs.Counts.{counted}
use Rattle.mintcx_joint.proofs.WrittenLaws.{asked}
use Rattle.mintcx_joint.proofs.never.put_asks.Goals as goal

pub returns : goal.returns
returns c =
    let unit = c.args.unit in
    let stages = c.args.stages.now in
    let delay : to_z w128 (of_z w128 c.from.result) ≡ delay_of stages = omega (arith, ints, c.from.ensures, c.sums_of-sums.ensures.delay) in
    on_ok_weaker c.put-3.result
    (λ e. asked c.args.lines.now c.put.new.self c.put_counted.new.lines c.put-2.new.self c.put_time.new.lines c.put-3.new.self
    (codes "a chain of ") (counted (length stages) (codes "constraint")) (codes " asks for ") (time_text unit (over (delay_of stages) (pos 1)))
    (codes " more than there are, in no cycle:") (10 ∷ 10 ∷ [])
    c.in_ok-put.ensures.ok c.in_ok-put_counted.ensures c.in_ok-put-2.ensures.ok
    (c.in_ok-put_time.ensures ∙ ap (λ x. c.put-2.new.self ++ time_text unit x) (c.new.ensures ∙ ap (λ x. over x (pos 1)) delay))
    e)
    c.put-3.ensures.ok
