use Rattle.std.proofs.Common.{◌≡◌, ◌<◌, ◌≤◌, ◌++◌, ◌∷◌, [], ◌∙◌, List, ℤ, ap, arith, length, map, take, sym, to_z, of_z, w64}
use Rattle.std.proofs.lemmas.Grind.{common_steps}
use Rattle.std.proofs.Common.{drop, subst}
use Rattle.std.proofs.lemmas.Int.{to_z-of_z}
use Rattle.std.specs.Prelude.{All}
use Rattle.std.proofs.lemmas.List.{take_all, take_more}
use Rattle.std.proofs.lemmas.List.Elements.{All-append, All-drop, All-take}
use Rattle.json.specs.Json.{Json}
use Rattle.json.specs.Tree.{json_tokens}
use Rattle.mintc_corners.specs.declared.members.CornerMember.{CornerMember}
use Rattle.mintcx_chain.specs.Turning.{turned}
use Rattle.mintcx_joint.specs.Shown.{IsShown}
use Rattle.mintcx_joint.proofs.SharedTurnLaws.{turned_length}
use Rattle.mintcx_json.specs.Corners.{member_value}
use Rattle.mintcx_json.specs.Pieces.{values_tokens}
use Rattle.mintcx_json.proofs.PieceLaws.{one_taken}
use Rattle.mintcx_json.proofs.corners.put_each_member.Goals as goal

pub put_member-requires-clause-shown : goal.put_member-requires-clause-shown
put_member-requires-clause-shown c =
    let shown : CornerMember → Type 0 = IsShown c.args.systems.now in
    let members = c.args.ring.now.members.now in
    let n = c.args.ring.now.first in
    let this = c.member_at-member.result.now in
    let each : All shown (turned n members) = All-append shown (drop n members) (take n members) (All-drop shown n members c.requires.ring.each) (All-take shown n members c.requires.ring.each) in
    let below : c.loop-at.at < length (turned n members) =
    (let same = turned_length n members in
    let inside = c.loop-at-test.true in
    omega arith) in
    subst shown (sym c.member_at-member.ensures) (each c.loop-at.at this below)

pub loop-at-preserved : goal.loop-at-preserved
loop-at-preserved c =
    let value : CornerMember → Json = member_value c.args.systems.now (to_z w64 (of_z w64 c.args.den)) in
    let ring = turned c.args.ring.now.first c.args.ring.now.members.now in
    let i = c.loop-at.at in
    let this = c.member_at-member.result.now in
    let below : i < length ring =
    (let same = turned_length c.args.ring.now.first c.args.ring.now.members.now in
    let inside = c.loop-at-test.true in
    omega arith) in
    let written : c.put_member.new.sheet ≡ c.loop-at.sheet ++ json_tokens (value this) = grind (arith, common_steps, c.in_ok-put_member.ensures) in
    one_taken value c.args.sheet.now (take i ring) this c.loop-at.invariant written
    ∙ ap (λ (v : List CornerMember). c.args.sheet.now ++ values_tokens (map value v))
    (ap (λ (v : CornerMember). take i ring ++ v ∷ []) c.member_at-member.ensures ∙ sym (take_more ring i this below))

pub returns : goal.returns
returns c =
    let ring = turned c.args.ring.now.first c.args.ring.now.members.now in
    let i = c.loop-at.at in
    let past : length ring ≤ i =
    (let same = turned_length c.args.ring.now.first c.args.ring.now.members.now in
    let outside = c.loop-at-test.false in
    omega arith) in
    c.loop-at.invariant
    ∙ ap (λ (v : List CornerMember). c.args.sheet.now ++ values_tokens (map (member_value c.args.systems.now (to_z w64 (of_z w64 c.args.den))) v)) (take_all i ring past)
    ∙ ap (λ (z : ℤ). c.args.sheet.now ++ values_tokens (map (member_value c.args.systems.now z) ring)) (to_z-of_z w64 c.args.den c.ranges.den)
