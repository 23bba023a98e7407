use Rattle.std.proofs.Common.{◌∷◌, [], codes}
use Rattle.std.proofs.lemmas.Result.{on_ok_weaker}
use Rattle.json.specs.Json.{string}
use Rattle.mintcx_json.specs.Objects.{Field, array_of, count, object_of}
use Rattle.mintcx_json.specs.Refusals.{told_fields}
use Rattle.mintcx_json.proofs.PieceLaws.{in_five, one_object}
use Rattle.mintcx_json.proofs.refusals.put_refused.Goals as goal

pub returns : goal.returns
returns c =
    let told = c.args.told.now in
    let version : Field = (codes "mintcx", count 1) in
    let command : Field = (codes "command", string told.command.now) in
    let status : Field = (codes "status", count 2) in
    let warnings : Field = (codes "warnings", array_of []) in
    let refusal : Field = (codes "refusal", object_of (told_fields told)) in
    on_ok_weaker c.close.result
    (λ e. one_object c.args.sheet.now (version ∷ command ∷ status ∷ warnings ∷ refusal ∷ []) c.in_ok-open.ensures
    (in_five c.open.new.self version command status warnings refusal
    c.in_ok-put_count.ensures c.in_ok-put_word.ensures c.in_ok-put_count-2.ensures c.in_ok-put_none.ensures c.in_ok-put_refusal.ensures) e)
    c.close.ensures
