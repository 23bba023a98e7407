use Rattle.std.proofs.Common.{◌++◌, ◌∷◌, [], codes, pos}
use Rattle.std.proofs.lemmas.Result.{on_ok_weaker}
use Rattle.mintcx_json.specs.Objects.{Field, array_of, head_fields, whole}
use Rattle.mintcx_json.proofs.PieceLaws.{and_fields, in_two, one_object}
use Rattle.mintcx_json.proofs.slacks.put_no_slacks.Goals as goal

pub returns : goal.returns
returns c =
    let head = head_fields (codes "slack") 1 (codes "never") c.args.subject.now in
    let den : Field = (codes "den", whole (pos 1)) in
    let pairs : Field = (codes "pairs", array_of []) in
    on_ok_weaker c.close.result
    (λ e. one_object c.args.sheet.now (head ++ den ∷ pairs ∷ []) c.in_ok-open.ensures
    (and_fields c.open.new.self head (den ∷ pairs ∷ []) c.in_ok-put_head.ensures
    (in_two c.put_head.new.sheet den pairs c.in_ok-put_whole.ensures c.in_ok-put_none.ensures)) e)
    c.close.ensures
