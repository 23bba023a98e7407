use Rattle.std.proofs.Common.{◌++◌, ◌∷◌, [], codes, pos}
use Rattle.std.proofs.lemmas.Result.{on_ok_weaker}
use Rattle.mintcx_json.specs.Corners.{corners_field, forbidding_field}
use Rattle.mintcx_json.specs.Objects.{Field, head_fields, whole}
use Rattle.mintcx_json.proofs.PieceLaws.{and_fields, in_two, one_object}
use Rattle.mintcx_json.proofs.corners.put_never.Goals as goal

pub returns : goal.returns
returns c =
    let ts = c.args.corners.now.systems.now in
    let head = head_fields (codes "corners") 1 (codes "never") c.args.subject.now in
    let den : Field = (codes "den", whole (pos 1)) in
    let own = corners_field c.args.corners.now.names.now c.args.corners.now.alone.now in
    let chain = forbidding_field ts c.args.ring.now.members.now c.args.ring.now.first in
    on_ok_weaker c.close.result
    (λ e. one_object c.args.sheet.now (head ++ (den ∷ []) ++ own ∷ chain ∷ []) c.in_ok-open.ensures
    (and_fields c.open.new.self (head ++ den ∷ []) (own ∷ chain ∷ []) (and_fields c.open.new.self head (den ∷ []) c.in_ok-put_head.ensures c.in_ok-put_whole.ensures)
    (in_two c.put_whole.new.sheet own chain c.in_ok-put_corners.ensures c.in_ok-put_forbidding.ensures)) e)
    c.close.ensures
