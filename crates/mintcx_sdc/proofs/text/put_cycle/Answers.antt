use Rattle.std.proofs.Common.{◌≡◌, ◌++◌, ℤ, ap, ◌∙◌, to_z, of_z, arith}
use Rattle.std.specs.Prelude.{codes}
use Rattle.std.specs.Int.{w128}
use Rattle.std.proofs.lemmas.Int.{ints}
use Rattle.std.proofs.lemmas.Result.{on_ok_weaker}
use Rattle.mintc_text.specs.Lines.{numeral_of}
use Rattle.mintcx_sdc.proofs.WrittenLaws.{in_three}
use Rattle.mintcx_sdc.proofs.text.put_cycle.Goals as goal

pub returns : goal.returns
returns c =
    let cycle : to_z w128 (of_z w128 c.from.result) ≡ c.args.cycle = omega (arith, ints, c.from.ensures, c.ranges.cycle) in
    on_ok_weaker c.put-2.result
    (λ e. in_three c.args.lines.now c.put.new.self c.number.new.self c.put-2.new.self (codes ", a cycle of ") (numeral_of c.args.cycle) (codes " fs")
    c.in_ok-put.ensures.ok (c.in_ok-number.ensures.ok ∙ ap (λ (x : ℤ). c.put.new.self ++ numeral_of x) cycle) e)
    c.put-2.ensures.ok
