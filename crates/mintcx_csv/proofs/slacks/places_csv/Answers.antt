use Rattle.std.proofs.Common.{◌≡◌, ◌∙◌, ap, take}
use Rattle.std.proofs.lemmas.List.{take_all}
use Rattle.std.proofs.lemmas.Result.{IfOk-weaker}
use Rattle.mintcx_csv.specs.Slacks.{slack_record, slack_records}
use Rattle.mintcx_csv.specs.Tables.{text_of}
use Rattle.mintcx_csv.proofs.TableLaws.{is_table, made_of}
use Rattle.mintcx_csv.proofs.slacks.places_csv.Goals as goal

pub returns : goal.returns
returns c =
    let t = c.args.system.now in
    let places = c.args.places.now in
    let all : take c.loop-place.place-index places ≡ places = take_all c.loop-place.place-index places c.loop-place-test.false in
    let text = c.loop-place.invariant.text ∙ ap (λ rows. text_of (slack_records t rows)) all in
    let several = made_of (slack_record t) (λ place. tt) places in
    IfOk-weaker c.text_of.result _ _ (λ found e. is_table (slack_records t places) found (e ∙ text) (tt, several)) c.text_of.ensures
