use Rattle.std.proofs.Common.{◌≡◌, ◌++◌, List, ℕ, ℤ, pos, ◌≤ℤ◌, to_z, of_z, ap, ◌∙◌, sym, w64, arith}
use Rattle.std.specs.Prelude.{codes}
use Rattle.std.specs.Int.{w128}
use Rattle.std.proofs.lemmas.Int.{ints, clamps, to_z-of_z}
use Rattle.std.proofs.lemmas.Result.{on_ok_weaker}
use Rattle.mintcx_chart.specs.Words.{moment_text}
use Rattle.mintcx_draw.proofs.NoteLaws.{lent_is}
use Rattle.mintcx_chart.proofs.SharedWrittenLaws.{in_two}
use Rattle.mintcx_draw.proofs.notes.put_lent.Goals as goal

pub returns : goal.returns
returns c =
    let s = c.args.told.now.schedule.now in
    let unit = c.args.told.now.unit in
    let time : to_z w128 (of_z w128 c.from.result) ≡ c.args.borrows = omega (arith, ints, clamps, c.from.ensures) in
    let den : to_z w64 (of_z w64 s.den) ≡ s.den = to_z-of_z w64 s.den (omega (arith, ints, clamps, c.requires.den.0, c.requires.den.1)) in
    let some : pos 1 ≤ℤ c.args.borrows = omega (arith, ints, clamps, c.if-borrows-le0.false) in
    on_ok_weaker c.put_moment.result
    (λ e. in_two c.args.lines.now c.put.new.self c.put_moment.new.lines (codes ", borrows ") (moment_text unit s.den c.args.borrows)
    c.in_ok-put.ensures.ok (e ∙ ap (λ (y : ℤ). c.put.new.self ++ moment_text unit y (to_z w128 (of_z w128 c.from.result))) den ∙ ap (λ (x : ℤ). c.put.new.self ++ moment_text unit s.den x) time)
    ∙ ap (λ (v : List ℕ). c.args.lines.now ++ v) (sym (lent_is s unit c.args.borrows some)))
    c.put_moment.ensures
