use Rattle.std.proofs.Common.{◌++◌, ◌∙◌, Option, ap, sym}
use Rattle.std.proofs.lemmas.Result.{on_ok_weaker}
use Rattle.mintcx_json.specs.declared.refusals.Spotted.{Spotted}
use Rattle.mintcx_json.specs.Pieces.{fields_tokens}
use Rattle.mintcx_json.specs.Refusals.{place_fields}
use Rattle.mintcx_json.proofs.refusals.put_place.Goals as goal

pub returns-in-Some : goal.returns-in-Some
returns-in-Some c =
    let told = c.args.told.now in
    on_ok_weaker c.put_spotted.result
    (λ e. e ∙ ap (λ (s : Option Spotted). c.args.sheet.now ++ fields_tokens (place_fields told.file.now s told.label.now)) (sym c.in-Some.is))
    c.put_spotted.ensures
