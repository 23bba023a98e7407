use Rattle.std.proofs.Common.{◌≡◌, ◌∙◌, ℕ, ℤ, List, ap, take, w64, to_z, of_z}
use Rattle.std.proofs.lemmas.Int.{to_z-of_z}
use Rattle.std.proofs.lemmas.List.{take_all}
use Rattle.std.proofs.lemmas.Result.{IfOk-weaker}
use Rattle.mintcx_csv.specs.Tables.{text_of}
use Rattle.mintcx_csv.specs.Violations.{fail_records}
use Rattle.mintcx_csv.proofs.TableLaws.{is_table}
use Rattle.mintcx_csv.proofs.ViolationLaws.{records_several}
use Rattle.mintcx_csv.proofs.violations.ranked_csv.Goals as goal

pub returns : goal.returns
returns c =
    let t = c.args.system.now in
    let vs = c.args.violations.now in
    let places = c.args.places.now in
    let all : take c.loop-place.place-index places ≡ places = take_all c.loop-place.place-index places c.loop-place-test.false in
    let den : to_z w64 (of_z w64 c.args.den) ≡ c.args.den = to_z-of_z w64 c.args.den c.ranges.den in
    let text = c.loop-place.invariant.text ∙ ap (λ (d : ℤ). text_of (fail_records t d vs (take c.loop-place.place-index places))) den
    ∙ ap (λ (rows : List (ℕ × ℤ × ℕ)). text_of (fail_records t c.args.den vs rows)) all in
    IfOk-weaker c.text_of.result _ _ (λ found e. is_table (fail_records t c.args.den vs places) found (e ∙ text) (records_several t c.args.den vs places)) c.text_of.ensures
