use Rattle.std.proofs.Common.{◌++◌, ◌∷◌, [], codes, pos}
use Rattle.std.proofs.lemmas.Result.{on_ok_weaker}
use Rattle.mintcx_json.specs.Objects.{Field, head_fields, whole}
use Rattle.mintcx_json.specs.Chains.{forbidding_value}
use Rattle.mintcx_json.proofs.PieceLaws.{and_fields, one_object}
use Rattle.mintcx_json.proofs.optimum.put_never.Goals as goal

pub returns : goal.returns
returns c =
    let head = head_fields c.args.heading.now.command.now 1 (codes "never") c.args.heading.now.subject.now in
    let den : Field = (codes "den", whole (pos 1)) in
    let chain : Field = (codes "chain", forbidding_value c.args.flat.now c.args.stages.now) in
    on_ok_weaker c.close.result
    (λ e. one_object c.args.sheet.now (head ++ den ∷ chain ∷ []) c.in_ok-open.ensures
    (and_fields c.open.new.self (head ++ den ∷ []) (chain ∷ []) (and_fields c.open.new.self head (den ∷ []) c.in_ok-put_head.ensures c.in_ok-put_whole.ensures)
    c.in_ok-put_forbidding.ensures) e)
    c.close.ensures
