use Rattle.std.proofs.Common.{◌≡◌, ◌++◌, ◌∷◌, [], ap, ◌∙◌, pos, length, arith, to_z, of_z}
use Rattle.std.specs.Prelude.{codes}
use Rattle.std.specs.Int.{w128}
use Rattle.std.proofs.lemmas.Int.{ints}
use Rattle.std.proofs.lemmas.Result.{on_ok_weaker}
use Rattle.mintc_fraction.specs.Ratio.{over}
use Rattle.mintcx_chain.specs.Sums.{delay_of}
use Rattle.mintcx_frame.specs.Ends.{time_text}
use Rattle.mintcx_optima.specs.Counts.{counted}
use Rattle.mintcx_optima.proofs.WrittenLaws.{in_four, with_end}
use Rattle.mintcx_optima.proofs.never.put_asks.Goals as goal

pub returns : goal.returns
returns c =
    let unit = c.args.unit in
    let stages = c.args.stages.now in
    let old = c.args.lines.now in
    let many = counted (length stages) (codes "constraint") in
    let time = time_text unit (over (delay_of stages) (pos 1)) in
    let delay : to_z w128 (of_z w128 c.from.result) ≡ delay_of stages = omega (arith, ints, c.from.ensures, c.sums_of-sums.ensures.delay) in
    let timed = c.in_ok-put_time.ensures ∙ ap (λ x. c.put-2.new.self ++ time_text unit x) (c.new.ensures ∙ ap (λ x. over x (pos 1)) delay) in
    let begun = in_four old c.put.new.self c.put_counted.new.lines c.put-2.new.self c.put_time.new.lines (codes "a chain of ") many (codes " asks for ") time
    c.in_ok-put.ensures.ok c.in_ok-put_counted.ensures c.in_ok-put-2.ensures.ok timed in
    on_ok_weaker c.put-3.result
    (λ e. with_end old c.put_time.new.lines c.put-3.new.self (codes "a chain of " ++ many ++ codes " asks for " ++ time) (codes " more than there are, in no cycle:") (10 ∷ 10 ∷ [])
    begun e)
    c.put-3.ensures.ok
