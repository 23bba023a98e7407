use Rattle.std.proofs.Common.{◌≡◌, ◌≢◌, ◌++◌, ◌∷◌, [], ℕ, ℤ, List, ap, ◌∙◌, sym, pos, length, arith, to_z, of_z}
use Rattle.std.specs.Prelude.{codes}
use Rattle.std.specs.Int.{w128}
use Rattle.std.proofs.lemmas.Int.{ints}
use Rattle.std.proofs.lemmas.Result.{on_ok_weaker}
use Rattle.mintc_fraction.specs.Ratio.{Ratio, over}
use Rattle.mintcx_amounts.specs.Amounts.{amount_text}
use Rattle.mintcx_chain.specs.Sums.{cycles_of, delay_of}
use Rattle.mintcx_frame.specs.Ends.{time_text}
use Rattle.mintcx_optima.specs.Counts.{counted}
use Rattle.mintcx_optima.specs.Never.{asks_text}
use Rattle.mintcx_optima.proofs.WrittenLaws.{in_six, in_three, otherwise, with_end}
use Rattle.mintcx_optima.proofs.short.put_needs.Goals as goal

pub returns : goal.returns
returns c =
    let unit = c.args.unit in
    let stages = c.args.stages.now in
    let old = c.args.lines.now in
    let sums = c.sums_of-sums.ensures in
    let some : cycles_of stages ≢ 0 = λ none. c.if-sums-eq0.false (sums.cycles ∙ none) in
    let many = counted (length stages) (codes "constraint") in
    let time = time_text unit (over (delay_of stages) (pos 1)) in
    let cycles = counted (cycles_of stages) (codes "cycle") in
    let amount = amount_text unit (over (delay_of stages) (pos (cycles_of stages))) in
    let delay : to_z w128 (of_z w128 c.from.result) ≡ delay_of stages = omega (arith, ints, c.from.ensures, sums.delay) in
    let whole : to_z w128 (of_z w128 c.from-2.result) ≡ delay_of stages = omega (arith, ints, c.from-2.ensures, sums.delay) in
    let share : to_z w128 (of_z w128 c.from-3.result) ≡ pos (cycles_of stages) = omega (arith, ints, c.from-3.ensures, sums.cycles, sums.few) in
    let timed = c.in_ok-put_time.ensures ∙ ap (λ (x : Ratio). c.put-2.new.self ++ time_text unit x) (c.new.ensures ∙ ap (λ (x : ℤ). over x (pos 1)) delay) in
    let turned = c.in_ok-put_counted-2.ensures ∙ ap (λ (n : ℕ). c.put-3.new.self ++ counted n (codes "cycle")) sums.cycles in
    let needed = c.in_ok-put_amount.ensures.ok ∙ ap (λ (x : Ratio). c.put-4.new.self ++ amount_text unit x)
    (c.new-2.ensures ∙ ap (λ (x : ℤ). over x (to_z w128 (of_z w128 c.from-3.result))) whole ∙ ap (over (delay_of stages)) share) in
    let begun = in_six old c.put.new.self c.put_counted.new.lines c.put-2.new.self c.put_time.new.lines c.put-3.new.self c.put_counted-2.new.lines
    (codes "a chain of ") many (codes " takes ") time (codes " in ") cycles
    c.in_ok-put.ensures.ok c.in_ok-put_counted.ensures c.in_ok-put-2.ensures.ok timed c.in_ok-put-3.ensures.ok turned in
    let first = codes "a chain of " ++ many ++ codes " takes " ++ time ++ codes " in " ++ cycles in
    let going = in_three old c.put_counted-2.new.lines c.put-4.new.self c.put_amount.new.lines first (codes ", and so needs a cycle of ") amount
    begun c.in_ok-put-4.ensures.ok needed in
    let last = first ++ codes ", and so needs a cycle of " ++ amount in
    on_ok_weaker c.put-5.result
    (λ e. with_end old c.put_amount.new.lines c.put-5.new.self last (codes ":") (10 ∷ 10 ∷ []) going e
    ∙ ap (λ (x : List ℕ). old ++ x) (sym (otherwise (cycles_of stages) (asks_text stages unit) (last ++ codes ":" ++ 10 ∷ 10 ∷ []) some)))
    c.put-5.ensures.ok
