use Rattle.std.proofs.Common.{◌++◌, ◌∷◌, [], ◌∙◌, ap, codes}
use Rattle.std.proofs.lemmas.Result.{on_ok_weaker}
use Rattle.mintc_timing.specs.Design.{Design}
use Rattle.mintcx_joint.specs.Shown.{corner_at}
use Rattle.mintcx_joint.proofs.SharedShownLaws.{first_design}
use Rattle.mintcx_json.specs.Clocks.{schedule_fields}
use Rattle.mintcx_json.specs.Corners.{corners_field, deciding_field}
use Rattle.mintcx_json.specs.Objects.{head_fields}
use Rattle.mintcx_json.specs.Pieces.{fields_tokens}
use Rattle.mintcx_json.proofs.PieceLaws.{and_fields, in_two, one_object}
use Rattle.mintcx_json.proofs.corners.put_least.Goals as goal

pub returns : goal.returns
returns c =
    let ts = c.args.corners.now.systems.now in
    let s = c.args.schedule.now in
    let head = head_fields (codes "corners") 0 (codes "least") c.args.subject.now in
    let clock = schedule_fields (corner_at ts 0).flat s in
    let own = corners_field c.args.corners.now.names.now c.args.corners.now.alone.now in
    let chain = deciding_field ts s c.args.ring.now.members.now c.args.ring.now.first in
    let first = first_design ts c.index-corners-0.result c.flat-flat.result.now c.requires.some c.flat-flat.ensures.value in
    let times = c.in_ok-put_schedule.ensures ∙ ap (λ (x : Design). c.put_head.new.sheet ++ fields_tokens (schedule_fields x s)) first in
    on_ok_weaker c.close.result
    (λ e. one_object c.args.sheet.now (head ++ clock ++ own ∷ chain ∷ []) c.in_ok-open.ensures
    (and_fields c.open.new.self (head ++ clock) (own ∷ chain ∷ []) (and_fields c.open.new.self head clock c.in_ok-put_head.ensures times)
    (in_two c.put_schedule.new.sheet own chain c.in_ok-put_corners.ensures c.in_ok-put_deciding.ensures)) e)
    c.close.ensures
