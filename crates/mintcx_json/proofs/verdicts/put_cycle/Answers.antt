use Rattle.std.proofs.Common.{◌≡◌, ◌++◌, ◌∷◌, [], ◌∙◌, ℤ, ap, codes, w64, to_z, of_z, arith}
use Rattle.std.proofs.lemmas.Int.{clamps, ints, to_z-of_z}
use Rattle.std.proofs.lemmas.Result.{on_ok_weaker}
use Rattle.mintcx_json.specs.Objects.{whole}
use Rattle.mintcx_json.specs.Pieces.{fields_tokens}
use Rattle.mintcx_json.proofs.PieceLaws.{in_two}
use Rattle.mintcx_json.proofs.verdicts.put_cycle.Goals as goal

pub returns : goal.returns
returns c =
    let s = c.args.schedule.now in
    let fewest = c.requires.den.0 in
    let most = c.requires.den.1 in
    let least = c.requires.cycle.0 in
    let greatest = c.requires.cycle.1 in
    let over : to_z w64 (of_z w64 s.den) ≡ s.den = to_z-of_z w64 s.den (omega (arith, ints, clamps)) in
    let time : to_z w64 (of_z w64 s.cycle) ≡ s.cycle = to_z-of_z w64 s.cycle (omega (arith, ints, clamps)) in
    let den = c.in_ok-put_whole.ensures ∙ ap (λ (z : ℤ). c.args.sheet.now ++ fields_tokens ((codes "den", whole z) ∷ [])) over in
    on_ok_weaker c.put_whole-2.result
    (λ e. in_two c.args.sheet.now (codes "den", whole s.den) (codes "cycle", whole s.cycle) den
    (e ∙ ap (λ (z : ℤ). c.put_whole.new.sheet ++ fields_tokens ((codes "cycle", whole z) ∷ [])) time))
    c.put_whole-2.ensures
