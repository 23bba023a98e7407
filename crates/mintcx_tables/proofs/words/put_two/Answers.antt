use Rattle.std.proofs.Common.{◌++◌, ◌∷◌, [], ℤ, ap, ◌∙◌, w64}
use Rattle.std.proofs.lemmas.Int.{to_z-of_z}
use Rattle.std.proofs.lemmas.Result.{on_ok_weaker}
use Rattle.mintc_text.specs.Lines.{numeral_of, spaced}
use Rattle.mintcx_tables.proofs.PieceLaws.{more_words}
use Rattle.mintcx_tables.proofs.words.put_two.Goals as goal

pub returns : goal.returns
returns c =
    let low = to_z-of_z w64 c.args.low c.ranges.low in
    let high = to_z-of_z w64 c.args.high c.ranges.high in
    on_ok_weaker c.put_number-2.result
    (λ e. more_words c.args.lines.now c.put_number.new.lines c.put_number-2.new.lines (numeral_of c.args.low ∷ []) (numeral_of c.args.high ∷ [])
    (c.in_ok-put_number.ensures ∙ ap (λ (x : ℤ). c.args.lines.now ++ spaced (numeral_of x ∷ [])) low)
    (e ∙ ap (λ (x : ℤ). c.put_number.new.lines ++ spaced (numeral_of x ∷ [])) high))
    c.put_number-2.ensures
