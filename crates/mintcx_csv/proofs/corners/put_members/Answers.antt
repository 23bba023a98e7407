use Rattle.std.proofs.Common.{◌≡◌, ◌<◌, ◌≤◌, ◌++◌, ◌∷◌, [], ◌∙◌, ℕ, List, ap, arith, length, map, take}
use Rattle.std.proofs.lemmas.List.{map_more, take_all}
use Rattle.csv.specs.Writing.{row_text}
use Rattle.mintc_corners.specs.declared.members.CornerMember.{CornerMember}
use Rattle.mintcx_chain.specs.Turning.{turned}
use Rattle.mintcx_joint.proofs.SharedTurnLaws.{turned_length}
use Rattle.mintcx_csv.specs.Corners.{member_record}
use Rattle.mintcx_csv.specs.Records.{text_so_far}
use Rattle.mintcx_csv.specs.Tables.{by_rfc, text_of}
use Rattle.mintcx_csv.proofs.TableLaws.{next_row}
use Rattle.mintcx_csv.proofs.corners.put_members.Goals as goal

pub loop-at-preserved : goal.loop-at-preserved
loop-at-preserved c =
    let row : CornerMember → List (List ℕ) = member_record c.args.systems.now in
    let ring = turned c.args.ring.now.first c.args.ring.now.members.now in
    let i = c.loop-at.at in
    let this = c.member_at.result.now in
    let below : i < length ring =
    (let same = turned_length c.args.ring.now.first c.args.ring.now.members.now in
    let inside = c.loop-at-test.true in
    omega arith) in
    let written = c.in_ok-put_member.ensures.text
    ∙ ap (λ (m : CornerMember). text_so_far c.loop-at.records ++ row_text by_rfc (row m)) c.member_at.ensures in
    record {
      between = c.in_ok-put_member.ensures.between;
      text = rw (map_more row ring i this below)
          (next_row (text_so_far c.args.records.now) (text_so_far c.loop-at.records) (text_so_far c.put_member.new.records) _ (map row (take i ring))
          c.loop-at.invariant.text written);
    }

pub returns-clause-text : goal.returns-clause-text
returns-clause-text c =
    let ring = turned c.args.ring.now.first c.args.ring.now.members.now in
    let i = c.loop-at.at in
    let past : length ring ≤ i =
    (let same = turned_length c.args.ring.now.first c.args.ring.now.members.now in
    let outside = c.loop-at-test.false in
    omega arith) in
    c.loop-at.invariant.text
    ∙ ap (λ (v : List CornerMember). text_so_far c.args.records.now ++ text_of (map (member_record c.args.systems.now) v)) (take_all i ring past)
