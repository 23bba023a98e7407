use Rattle.std.proofs.Common.{◌≡◌, ◌++◌, ◌∷◌, [], ap, ◌∙◌, pos, arith, to_z, of_z}
use Rattle.std.specs.Prelude.{codes}
use Rattle.std.specs.Int.{w128}
use Rattle.std.proofs.lemmas.Int.{ints}
use Rattle.std.proofs.lemmas.Result.{on_ok_weaker}
use Rattle.mintc_fraction.specs.Ratio.{over}
use Rattle.mintcx_frame.specs.Ends.{time_text}
use Rattle.mintcx_optima.specs.Counts.{counted}
use Rattle.mintcx_optima.proofs.WrittenLaws.{in_six, with_end}
use Rattle.mintcx_optima.proofs.counts.put_decided.Goals as goal

pub returns : goal.returns
returns c =
    let unit = c.args.unit in
    let sums = c.args.sums.now in
    let old = c.args.lines.now in
    let many = counted c.args.count (codes "constraint") in
    let time = time_text unit (over sums.delay (pos 1)) in
    let cycles = counted sums.cycles (codes "cycle") in
    let delay : to_z w128 (of_z w128 c.from.result) ≡ sums.delay = omega (arith, ints, c.from.ensures, c.requires.least, c.requires.greatest) in
    let timed = c.in_ok-put_time.ensures ∙ ap (λ x. c.put-2.new.self ++ time_text unit x) (c.new.ensures ∙ ap (λ x. over x (pos 1)) delay) in
    let begun = in_six old c.put.new.self c.put_counted.new.lines c.put-2.new.self c.put_time.new.lines c.put-3.new.self c.put_counted-2.new.lines
    (codes "decided by a chain of ") many (codes " that takes ") time (codes " in ") cycles
    c.in_ok-put.ensures.ok c.in_ok-put_counted.ensures c.in_ok-put-2.ensures.ok timed c.in_ok-put-3.ensures.ok c.in_ok-put_counted-2.ensures in
    on_ok_weaker c.put-4.result
    (λ e. with_end old c.put_counted-2.new.lines c.put-4.new.self (codes "decided by a chain of " ++ many ++ codes " that takes " ++ time ++ codes " in " ++ cycles) (codes ":") (10 ∷ [])
    begun e)
    c.put-4.ensures.ok
