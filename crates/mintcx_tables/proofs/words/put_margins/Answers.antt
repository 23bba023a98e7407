use Rattle.std.proofs.Common.{◌≡◌, ◌++◌, ◌∷◌, [], ℤ, ap, ◌∙◌, w64, to_z, of_z, arith}
use Rattle.std.proofs.lemmas.Int.{to_z-of_z}
use Rattle.std.proofs.lemmas.Result.{on_ok_weaker}
use Rattle.mintc_text.specs.Lines.{numeral_of, spaced}
use Rattle.mintc_timing_text.specs.TableText.{hold_word}
use Rattle.mintcx_tables.proofs.PieceLaws.{more_words}
use Rattle.mintcx_tables.proofs.words.put_margins.Goals as goal

pub returns : goal.returns
returns c =
    let e = c.args.element.now in
    let setup : to_z w64 (of_z w64 e.setup) ≡ e.setup = grind (arith, to_z-of_z) in
    let hold : to_z w64 (of_z w64 e.hold) ≡ e.hold = grind (arith, to_z-of_z) in
    on_ok_weaker c.put_hold.result
    (λ done. more_words c.args.lines.now c.put_number.new.lines c.put_hold.new.lines (numeral_of e.setup ∷ []) (hold_word e.has_hold e.hold ∷ [])
    (c.in_ok-put_number.ensures ∙ ap (λ (x : ℤ). c.args.lines.now ++ spaced (numeral_of x ∷ [])) setup)
    (done ∙ ap (λ (x : ℤ). c.put_number.new.lines ++ spaced (hold_word e.has_hold x ∷ [])) hold))
    c.put_hold.ensures
