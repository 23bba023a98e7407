use Rattle.std.proofs.Common.{◌≡◌, ◌++◌, ℤ, pos, ap, ◌∙◌, to_z, of_z, arith}
use Rattle.std.specs.Int.{w128}
use Rattle.std.proofs.lemmas.Int.{ints}
use Rattle.std.proofs.lemmas.Result.{on_ok_weaker}
use Rattle.mintc_text.specs.Lines.{numeral_of}
use Rattle.mintc_timing_text.specs.Fields.{number}
use Rattle.mintcx_tables.proofs.PieceLaws.{joined_word}
use Rattle.mintcx_tables.proofs.words.put_lettered.Goals as goal

pub returns : goal.returns
returns c =
    let count : to_z w128 (of_z w128 c.from.result) ≡ pos c.args.count = omega (arith, ints, c.from.ensures, c.ranges.count) in
    on_ok_weaker c.number.result
    (λ e. joined_word c.args.lines.now c.put.new.self c.put-2.new.self c.number.new.self c.args.letter.now (number c.args.count)
    c.in_ok-put.ensures.ok c.in_ok-put-2.ensures.ok
    (e ∙ ap (λ (x : ℤ). c.put-2.new.self ++ numeral_of x) count))
    c.number.ensures.ok
