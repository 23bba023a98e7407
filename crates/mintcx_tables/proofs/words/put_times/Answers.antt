use Rattle.std.proofs.Common.{◌≡◌, ◌++◌, ◌∷◌, [], ℤ, ap, ◌∙◌, w64, to_z, of_z, arith}
use Rattle.std.proofs.lemmas.Int.{to_z-of_z}
use Rattle.std.proofs.lemmas.Result.{on_ok_weaker}
use Rattle.mintc_text.specs.Lines.{numeral_of, spaced}
use Rattle.mintcx_tables.proofs.PieceLaws.{more_words}
use Rattle.mintcx_tables.proofs.words.put_times.Goals as goal

pub returns : goal.returns
returns c =
    let e = c.args.element.now in
    let dq_min : to_z w64 (of_z w64 e.dq_min) ≡ e.dq_min = grind (arith, to_z-of_z) in
    let dq_max : to_z w64 (of_z w64 e.dq_max) ≡ e.dq_max = grind (arith, to_z-of_z) in
    let cq_min : to_z w64 (of_z w64 e.cq_min) ≡ e.cq_min = grind (arith, to_z-of_z) in
    let cq_max : to_z w64 (of_z w64 e.cq_max) ≡ e.cq_max = grind (arith, to_z-of_z) in
    let width : to_z w64 (of_z w64 e.width) ≡ e.width = grind (arith, to_z-of_z) in
    let dq = c.in_ok-put_two.ensures
    ∙ ap (λ (x : ℤ). c.args.lines.now ++ spaced (numeral_of x ∷ numeral_of (to_z w64 (of_z w64 e.dq_max)) ∷ [])) dq_min
    ∙ ap (λ (x : ℤ). c.args.lines.now ++ spaced (numeral_of e.dq_min ∷ numeral_of x ∷ [])) dq_max in
    let cq = c.in_ok-put_two-2.ensures
    ∙ ap (λ (x : ℤ). c.put_two.new.lines ++ spaced (numeral_of x ∷ numeral_of (to_z w64 (of_z w64 e.cq_max)) ∷ [])) cq_min
    ∙ ap (λ (x : ℤ). c.put_two.new.lines ++ spaced (numeral_of e.cq_min ∷ numeral_of x ∷ [])) cq_max in
    let delays = more_words c.args.lines.now c.put_two.new.lines c.put_two-2.new.lines (numeral_of e.dq_min ∷ numeral_of e.dq_max ∷ [])
    (numeral_of e.cq_min ∷ numeral_of e.cq_max ∷ []) dq cq in
    on_ok_weaker c.put_number.result
    (λ done. more_words c.args.lines.now c.put_two-2.new.lines c.put_number.new.lines
    (numeral_of e.dq_min ∷ numeral_of e.dq_max ∷ numeral_of e.cq_min ∷ numeral_of e.cq_max ∷ []) (numeral_of e.width ∷ []) delays
    (done ∙ ap (λ (x : ℤ). c.put_two-2.new.lines ++ spaced (numeral_of x ∷ [])) width))
    c.put_number.ensures
