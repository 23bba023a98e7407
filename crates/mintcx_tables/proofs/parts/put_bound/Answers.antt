use Rattle.std.proofs.Common.{◌≡◌, ◌++◌, ◌∷◌, [], ℤ, pos, ap, ◌∙◌, codes, w64, to_z, of_z, arith}
use Rattle.std.proofs.lemmas.Int.{to_z-of_z}
use Rattle.std.proofs.lemmas.Result.{on_ok_weaker}
use Rattle.mintc_text.specs.Lines.{numeral_of, spaced}
use Rattle.mintc_timing_text.specs.Fields.{number}
use Rattle.mintc_timing_text.specs.TableText.{point_word}
use Rattle.mintcx_tables.proofs.PieceLaws.{line_of_three}
use Rattle.mintcx_tables.proofs.parts.put_bound.Goals as goal

pub returns : goal.returns
returns c =
    let bound = c.args.bound.now in
    let gap : to_z w64 (of_z w64 bound.gap) ≡ bound.gap = grind (arith, to_z-of_z) in
    let cycles : to_z w64 (of_z w64 c.from.result) ≡ pos bound.cycles = grind (arith, to_z-of_z, c.from.ensures) in
    on_ok_weaker c.put-2.result
    (λ e. line_of_three c.args.lines.now c.put.new.self c.put_point.new.lines c.put_point-2.new.lines c.put_two.new.lines c.put-2.new.self (codes "bound")
    (point_word bound.from ∷ []) (point_word bound.to ∷ []) (numeral_of bound.gap ∷ number bound.cycles ∷ [])
    c.in_ok-put.ensures.ok c.in_ok-put_point.ensures c.in_ok-put_point-2.ensures
    (c.in_ok-put_two.ensures
    ∙ ap (λ (x : ℤ). c.put_point-2.new.lines ++ spaced (numeral_of x ∷ numeral_of (to_z w64 (of_z w64 c.from.result)) ∷ [])) gap
    ∙ ap (λ (x : ℤ). c.put_point-2.new.lines ++ spaced (numeral_of bound.gap ∷ numeral_of x ∷ [])) cycles)
    e)
    c.put-2.ensures.ok
