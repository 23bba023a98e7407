use Rattle.std.proofs.Common.{◌++◌, ◌∷◌, [], ◌∙◌, ℕ, List, ap, codes, map}
use Rattle.std.proofs.lemmas.Result.{on_ok_weaker}
use Rattle.json.specs.Json.{string}
use Rattle.mintcx_verdicts.specs.Verdicts.{test_name, test_of}
use Rattle.mintcx_json.specs.Objects.{Field, array_of, count}
use Rattle.mintcx_json.specs.Judgements.{violation_value}
use Rattle.mintcx_json.specs.Pieces.{fields_tokens}
use Rattle.mintcx_json.proofs.PieceLaws.{in_three}
use Rattle.mintcx_json.proofs.verdicts.put_failed.Goals as goal

pub returns : goal.returns
returns c =
    let old = c.args.sheet.now in
    let n = c.args.number in
    let test : Field = (codes "test", count n) in
    let fails : Field = (codes "fails", string (test_name (test_of n))) in
    let found : Field = (codes "violations", array_of (map (violation_value c.args.examined.now.system.now) c.args.examined.now.violations.now)) in
    let counted = c.in_ok-put_count.ensures ∙ ap (λ (k : ℕ). old ++ fields_tokens ((codes "test", count k) ∷ [])) c.from.ensures in
    let named = c.in_ok-put_word.ensures ∙ ap (λ (k : List ℕ). c.put_count.new.sheet ++ fields_tokens ((codes "fails", string k) ∷ [])) c.test_name.ensures in
    on_ok_weaker c.put_violations.result (λ e. in_three old test fails found counted named e) c.put_violations.ensures
