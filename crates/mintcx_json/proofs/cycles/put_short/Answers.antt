use Rattle.std.proofs.Common.{◌++◌, ◌∷◌, [], ◌∙◌, ap, codes, pos, ℕ}
use Rattle.std.proofs.lemmas.Result.{on_ok_weaker}
use Rattle.mintcx_json.specs.Objects.{Field, count, head_fields, whole}
use Rattle.mintcx_json.specs.Chains.{forbidding_value}
use Rattle.mintcx_json.specs.Pieces.{fields_tokens}
use Rattle.mintcx_json.proofs.PieceLaws.{and_fields, in_three, one_object}
use Rattle.mintcx_json.proofs.cycles.put_short.Goals as goal

pub returns : goal.returns
returns c =
    let head = head_fields (codes "optimise") 1 (codes "short") c.args.subject.now in
    let den : Field = (codes "den", whole (pos 1)) in
    let cycle : Field = (codes "cycle", count c.args.cycle) in
    let chain : Field = (codes "chain", forbidding_value c.args.flat.now c.args.stages.now) in
    let counted = c.in_ok-put_count.ensures ∙ ap (λ (n : ℕ). c.put_whole.new.sheet ++ fields_tokens ((codes "cycle", count n) ∷ [])) c.from.ensures in
    on_ok_weaker c.close.result
    (λ e. one_object c.args.sheet.now (head ++ den ∷ cycle ∷ chain ∷ []) c.in_ok-open.ensures
    (and_fields c.open.new.self head (den ∷ cycle ∷ chain ∷ []) c.in_ok-put_head.ensures
    (in_three c.put_head.new.sheet den cycle chain c.in_ok-put_whole.ensures counted c.in_ok-put_forbidding.ensures)) e)
    c.close.ensures
