use Rattle.std.proofs.Common.{◌++◌, ◌∷◌, [], ◌∙◌, ℕ, List, ap, map, take, get_or, sym}
use Rattle.std.proofs.lemmas.List.{take_more, map-append}
use Rattle.json.specs.Json.{string}
use Rattle.json.specs.Tree.{json_tokens}
use Rattle.mintcx_judgements.specs.Sources.{from_of}
use Rattle.mintcx_json.specs.Objects.{name}
use Rattle.mintcx_json.specs.Pieces.{values_tokens}
use Rattle.mintcx_json.proofs.PieceLaws.{one_taken}
use Rattle.mintcx_json.proofs.judgements.put_ring.Goals as goal

pub loop-pair-preserved : goal.loop-pair-preserved
loop-pair-preserved c =
    let from : ℕ → List ℕ = from_of c.args.system.now in
    let list = c.args.pairs.now in
    let i = c.loop-pair.pair-index in
    let this = get_or list i 0 in
    let written = c.in_ok-name.ensures ∙ ap (λ (n : List ℕ). c.loop-pair.sheet ++ json_tokens (name n)) c.from_of.ensures in
    one_taken name c.args.sheet.now (map from (take i list)) (from this) c.loop-pair.invariant written
    ∙ ap (λ (v : List (List ℕ)). c.args.sheet.now ++ values_tokens (map name v)) (sym (map-append from (take i list) (this ∷ [])))
    ∙ ap (λ (v : List ℕ). c.args.sheet.now ++ values_tokens (map name (map from v))) (sym (take_more list i 0 c.loop-pair-test.true))
