use Rattle.std.proofs.Common.{◌++◌, ◌∷◌, [], List, ℕ, ap, ◌∙◌, length}
use Rattle.std.proofs.lemmas.Result.{on_ok_weaker}
use Rattle.mintcx_chain.specs.declared.stages.Stage.{Stage}
use Rattle.mintcx_frame.specs.Ends.{foot_text}
use Rattle.mintcx_optima.specs.Never.{asks_text, unit_of}
use Rattle.mintcx_joint.specs.declared.tables.Telling.TheVariants.{Because}
use Rattle.mintcx_joint.specs.Alone.{corners_table}
use Rattle.mintcx_joint.specs.Chains.{rows_text}
use Rattle.mintcx_joint.specs.CornersText.{claim_text}
use Rattle.mintcx_joint.specs.Shown.{joint_stages}
use Rattle.mintcx_joint.proofs.WrittenLaws.{asks_same, more}
use Rattle.mintcx_joint.proofs.never.put_never.Goals as goal

pub returns : goal.returns
returns c =
    let old = c.args.lines.now in
    let ts = c.args.corners.now.systems.now in
    let names = c.args.corners.now.names.now in
    let alone = c.args.corners.now.alone.now in
    let chain = c.args.ring.now.members.now in
    let n = c.args.ring.now.first in
    let view = c.args.view.now in
    let stages = joint_stages ts chain in
    let unit = unit_of stages view in
    let are = c.requires.ring.are in
    let same = c.unit_of.ensures ∙ ap (λ (ks : List Stage). unit_of ks view) are in
    let line : List ℕ = 10 ∷ [] in
    let claim = claim_text (length names) view in
    let table = corners_table unit names alone in
    let asks = asks_text stages unit in
    let rows = rows_text Because ts unit view.limit chain n in
    let foot = foot_text unit [] in
    let second = more old c.put_claim.new.lines c.put.new.self claim line c.in_ok-put_claim.ensures c.in_ok-put.ensures.ok in
    let third = more old c.put.new.self c.put_corners.new.lines (claim ++ line) table second
    (c.in_ok-put_corners.ensures ∙ ap (λ u. c.put.new.self ++ corners_table u names alone) same) in
    let fourth = more old c.put_corners.new.lines c.put-2.new.self (claim ++ line ++ table) line third c.in_ok-put-2.ensures.ok in
    let fifth = more old c.put-2.new.self c.put_asks.new.lines (claim ++ line ++ table ++ line) asks fourth
    (c.in_ok-put_asks.ensures ∙ ap (λ v. c.put-2.new.self ++ v) (asks_same c.args.ring.now.stages.now stages c.unit_of.result unit are same)) in
    let sixth = more old c.put_asks.new.lines c.put_rows.new.lines (claim ++ line ++ table ++ line ++ asks) rows fifth
    (c.in_ok-put_rows.ensures ∙ ap (λ u. c.put_asks.new.lines ++ rows_text Because ts u view.limit chain n) same) in
    let seventh = more old c.put_rows.new.lines c.put-3.new.self (claim ++ line ++ table ++ line ++ asks ++ rows) line sixth c.in_ok-put-3.ensures.ok in
    on_ok_weaker c.put_foot.result
    (λ e. more old c.put-3.new.self c.put_foot.new.lines (claim ++ line ++ table ++ line ++ asks ++ rows ++ line) foot seventh
    (e ∙ ap (λ u. c.put-3.new.self ++ foot_text u []) same))
    c.put_foot.ensures
