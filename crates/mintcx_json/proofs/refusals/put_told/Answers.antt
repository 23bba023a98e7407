use Rattle.std.proofs.Common.{◌∷◌, [], codes}
use Rattle.std.proofs.lemmas.Result.{on_ok_weaker}
use Rattle.mintcx_json.specs.Objects.{Field, array_of, name}
use Rattle.mintcx_json.specs.Refusals.{cause_fields, own_fields, places_of}
use Rattle.mintcx_json.proofs.PieceLaws.{and_fields, in_two}
use Rattle.mintcx_json.proofs.refusals.put_told.Goals as goal

pub returns : goal.returns
returns c =
    let told = c.args.told.now in
    let cause = cause_fields told.cause in
    let places : Field = (codes "places", array_of (places_of told.file.now told.spotted told.label.now)) in
    let help : Field = (codes "help", name told.help.now) in
    let own = own_fields told.own in
    on_ok_weaker c.put_own.result
    (λ e. and_fields c.args.sheet.now cause (places ∷ help ∷ own) c.in_ok-put_cause.ensures
    (and_fields c.put_cause.new.sheet (places ∷ help ∷ []) own (in_two c.put_cause.new.sheet places help c.in_ok-put_places.ensures c.in_ok-put_name.ensures) e))
    c.put_own.ensures
