use Rattle.std.proofs.Common.{◌≡◌, ◌++◌, ◌∷◌, [], ℤ, pos, ap, ◌∙◌, to_z, of_z, arith}
use Rattle.std.specs.Int.{w128}
use Rattle.std.proofs.lemmas.Int.{ints}
use Rattle.std.proofs.lemmas.Result.{on_ok_weaker}
use Rattle.mintc_text.specs.Lines.{numeral_of}
use Rattle.mintc_timing_text.specs.Fields.{number}
use Rattle.mintcx_tables.proofs.PieceLaws.{line_of_one, one_word}
use Rattle.mintcx_tables.proofs.parts.put_count.Goals as goal

pub returns : goal.returns
returns c =
    let count : to_z w128 (of_z w128 (pos c.args.count)) ≡ pos c.args.count = omega (arith, ints, c.ranges.count) in
    let second = one_word c.put.new.self c.put-2.new.self c.number.new.self (number c.args.count) c.in_ok-put-2.ensures.ok
    (c.in_ok-number.ensures.ok ∙ ap (λ (x : ℤ). c.put-2.new.self ++ numeral_of x) count) in
    on_ok_weaker c.put-3.result
    (λ e. line_of_one c.args.lines.now c.put.new.self c.number.new.self c.put-3.new.self c.args.word.now (number c.args.count ∷ []) c.in_ok-put.ensures.ok second e)
    c.put-3.ensures.ok
