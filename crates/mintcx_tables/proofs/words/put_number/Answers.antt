use Rattle.std.proofs.Common.{◌≡◌, ◌++◌, ℤ, ap, ◌∙◌, to_z, of_z, arith}
use Rattle.std.specs.Int.{w128}
use Rattle.std.proofs.lemmas.Int.{ints}
use Rattle.std.proofs.lemmas.Result.{on_ok_weaker}
use Rattle.mintc_text.specs.Lines.{numeral_of}
use Rattle.mintcx_tables.proofs.PieceLaws.{one_word}
use Rattle.mintcx_tables.proofs.words.put_number.Goals as goal

pub returns : goal.returns
returns c =
    let value : to_z w128 (of_z w128 c.from.result) ≡ c.args.value = omega (arith, ints, c.from.ensures, c.ranges.value) in
    on_ok_weaker c.number.result
    (λ e. one_word c.args.lines.now c.put.new.self c.number.new.self (numeral_of c.args.value) c.in_ok-put.ensures.ok
    (e ∙ ap (λ (x : ℤ). c.put.new.self ++ numeral_of x) value))
    c.number.ensures.ok
