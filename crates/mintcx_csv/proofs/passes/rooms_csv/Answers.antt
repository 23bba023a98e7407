use Rattle.std.proofs.Common.{◌∷◌, ◌∙◌, ℕ, ℤ, pos, List, map, take, slice_index_or, ap, sym, arith}
use Rattle.std.proofs.lemmas.List.{map_more, take_all}
use Rattle.std.proofs.lemmas.Result.{IfOk-weaker}
use Rattle.mintcx_csv.specs.Passes.{pass_fields, pass_record, pass_records}
use Rattle.mintcx_csv.specs.Records.{text_so_far}
use Rattle.mintcx_csv.specs.Tables.{shown_over, text_of}
use Rattle.mintcx_csv.proofs.PassLaws.{rooms_several}
use Rattle.mintcx_csv.proofs.TableLaws.{is_table, one_more}
use Rattle.mintcx_csv.proofs.passes.rooms_csv.Goals as goal

pub overflow_cast-place : goal.overflow_cast-place
overflow_cast-place c =
    omega (arith, c.requires.inside c.loop-place.place-index (0, pos 0, 0) c.loop-place-test.true, c.requires.design.elements)

pub loop-place-preserved : goal.loop-place-preserved
loop-place-preserved c =
    let causes = c.args.causes.now in
    let s = causes.told.schedule.now in
    let row : ℕ × ℤ × ℕ → List (List ℕ) = λ p. shown_over s.den 6 (pass_record causes.told.system.now s causes.late.now causes.early.now p.2) in
    let places = c.args.places.now in
    let i = c.loop-place.place-index in
    let more = one_more (text_so_far c.loop-place.records) (text_so_far c.put_room.new.records) (shown_over s.den 6 pass_fields) (row (slice_index_or places i (0, pos 0, 0)))
    (map row (take i places)) c.loop-place.invariant.text c.in_ok-put_room.ensures.text in
    record {
      between = c.in_ok-put_room.ensures.between;
      text = more ∙ ap (λ (rows : List (List (List ℕ))). text_of (shown_over s.den 6 pass_fields ∷ rows)) (sym (map_more row places i (0, pos 0, 0) c.loop-place-test.true));
    }

pub returns : goal.returns
returns c =
    let causes = c.args.causes.now in
    let t = causes.told.system.now in
    let s = causes.told.schedule.now in
    let late = causes.late.now in
    let early = causes.early.now in
    let places = c.args.places.now in
    let all = take_all c.loop-place.place-index places c.loop-place-test.false in
    let text = c.loop-place.invariant.text ∙ ap (λ (rows : List (ℕ × ℤ × ℕ)). text_of (pass_records t s late early rows)) all in
    IfOk-weaker c.text_of.result _ _ (λ found e. is_table (pass_records t s late early places) found (e ∙ text) (rooms_several t s late early places)) c.text_of.ensures
