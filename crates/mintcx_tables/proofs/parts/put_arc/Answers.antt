use Rattle.std.proofs.Common.{◌≡◌, ◌++◌, ◌∷◌, [], ℤ, ap, ◌∙◌, codes, w64, to_z, of_z, arith}
use Rattle.std.proofs.lemmas.Int.{to_z-of_z}
use Rattle.std.proofs.lemmas.Result.{on_ok_weaker}
use Rattle.mintc_text.specs.Lines.{numeral_of, spaced}
use Rattle.mintcx_tables.specs.Lines.{bit_word}
use Rattle.mintcx_tables.proofs.PieceLaws.{line_of_three}
use Rattle.mintcx_tables.proofs.parts.put_arc.Goals as goal

pub returns : goal.returns
returns c =
    let arc = c.args.arc.now in
    let n = c.args.elements in
    let min : to_z w64 (of_z w64 arc.min) ≡ arc.min = grind (arith, to_z-of_z) in
    let max : to_z w64 (of_z w64 arc.max) ≡ arc.max = grind (arith, to_z-of_z) in
    on_ok_weaker c.put-2.result
    (λ e. line_of_three c.args.lines.now c.put.new.self c.put_bit.new.lines c.put_bit-2.new.lines c.put_two.new.lines c.put-2.new.self (codes "arc")
    (bit_word (codes "q") n arc.from ∷ []) (bit_word (codes "d") n arc.to ∷ []) (numeral_of arc.min ∷ numeral_of arc.max ∷ [])
    c.in_ok-put.ensures.ok c.in_ok-put_bit.ensures c.in_ok-put_bit-2.ensures
    (c.in_ok-put_two.ensures
    ∙ ap (λ (x : ℤ). c.put_bit-2.new.lines ++ spaced (numeral_of x ∷ numeral_of (to_z w64 (of_z w64 arc.max)) ∷ [])) min
    ∙ ap (λ (x : ℤ). c.put_bit-2.new.lines ++ spaced (numeral_of arc.min ∷ numeral_of x ∷ [])) max)
    e)
    c.put-2.ensures.ok
