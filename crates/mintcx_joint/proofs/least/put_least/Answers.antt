use Rattle.std.proofs.Common.{◌++◌, ◌∷◌, [], List, ℕ, ap, ◌∙◌, length}
use Rattle.std.specs.Prelude.{codes}
use Rattle.std.proofs.lemmas.Result.{on_ok_weaker}
use Rattle.mintcx_frame.specs.Ends.{foot_text, head_text}
use Rattle.mintcx_frame.specs.Phases.{phases_text}
use Rattle.mintcx_optima.specs.Least.{cycle_of, unit_of}
use Rattle.mintcx_joint.specs.Alone.{corners_table}
use Rattle.mintcx_joint.specs.CornersText.{cornered, deciding_text}
use Rattle.mintcx_joint.specs.Shown.{corner_at}
use Rattle.mintcx_joint.proofs.SharedShownLaws.{first_design}
use Rattle.mintcx_joint.proofs.WrittenLaws.{more}
use Rattle.mintcx_joint.proofs.least.put_least.Goals as goal

pub returns : goal.returns
returns c =
    let old = c.args.lines.now in
    let ts = c.args.corners.now.systems.now in
    let names = c.args.corners.now.names.now in
    let alone = c.args.corners.now.alone.now in
    let s = c.args.schedule.now in
    let view = c.args.view.now in
    let unit = unit_of s view in
    let first = first_design ts c.index-corners-0.result c.flat.result.now c.requires.some c.flat.ensures.value in
    let line : List ℕ = 10 ∷ [] in
    let head = head_text (codes "least") (cycle_of s) (cornered (length names) view) in
    let table = corners_table unit names alone in
    let phases = phases_text (corner_at ts 0).flat s unit in
    let deciding = deciding_text ts s c.args.ring.now.members.now c.args.ring.now.first view in
    let foot = foot_text unit [] in
    let second = more old c.put_least_head.new.lines c.put.new.self head line c.in_ok-put_least_head.ensures c.in_ok-put.ensures.ok in
    let third = more old c.put.new.self c.put_corners.new.lines (head ++ line) table second
    (c.in_ok-put_corners.ensures ∙ ap (λ u. c.put.new.self ++ corners_table u names alone) c.unit_of-unit.ensures) in
    let fourth = more old c.put_corners.new.lines c.put-2.new.self (head ++ line ++ table) line third c.in_ok-put-2.ensures.ok in
    let fifth = more old c.put-2.new.self c.put_phases.new.lines (head ++ line ++ table ++ line) phases fourth
    (c.in_ok-put_phases.ensures ∙ ap (λ d. c.put-2.new.self ++ phases_text d s c.unit_of-unit.result) first
    ∙ ap (λ u. c.put-2.new.self ++ phases_text (corner_at ts 0).flat s u) c.unit_of-unit.ensures) in
    let sixth = more old c.put_phases.new.lines c.put-3.new.self (head ++ line ++ table ++ line ++ phases) line fifth c.in_ok-put-3.ensures.ok in
    let seventh = more old c.put-3.new.self c.put_deciding.new.lines (head ++ line ++ table ++ line ++ phases ++ line) deciding sixth c.in_ok-put_deciding.ensures in
    let eighth = more old c.put_deciding.new.lines c.put-4.new.self (head ++ line ++ table ++ line ++ phases ++ line ++ deciding) line seventh c.in_ok-put-4.ensures.ok in
    on_ok_weaker c.put_foot.result
    (λ e. more old c.put-4.new.self c.put_foot.new.lines (head ++ line ++ table ++ line ++ phases ++ line ++ deciding ++ line) foot eighth
    (e ∙ ap (λ u. c.put-4.new.self ++ foot_text u []) c.unit_of-unit.ensures))
    c.put_foot.ensures
