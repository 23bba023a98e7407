use Rattle.std.proofs.Common.{◌∷◌, [], ◌++◌, ℕ, List, map, take, ap, ◌∙◌, ◌<◌, length, arith}
use Rattle.std.proofs.lemmas.List.{map_more}
use Rattle.mintc_corners.specs.declared.members.CornerMember.{CornerMember}
use Rattle.mintcx_chain.specs.Turning.{turned}
use Rattle.mintcx_joint.specs.Chains.{chain_cells, chain_head}
use Rattle.mintcx_joint.proofs.SharedTurnLaws.{turned_length}
use Rattle.mintcx_joint.proofs.tables.chain_table.Goals as goal

pub loop-at-preserved : goal.loop-at-preserved
loop-at-preserved c =
    let telling = c.args.scale.telling in
    let cells : CornerMember → List (List ℕ) = chain_cells telling c.args.systems.now c.args.scale.unit in
    let ring = turned c.args.ring.now.first c.args.ring.now.members.now in
    let at = c.loop-at.at in
    let member = c.member_at-member.result.now in
    let below : at < length ring =
    (let same = turned_length c.args.ring.now.first c.args.ring.now.members.now in
    let few = c.requires.shown in
    let inside = c.loop-at-test.true in
    omega arith) in
    record {
      columns = c.in_ok-push-2.ensures.columns ∙ c.loop-at.invariant.columns;
      rows = rw (map_more cells ring at member below)
          (c.in_ok-push-2.ensures.ok ∙ ap (λ (v : List (List (List ℕ))). v ++ c.in_ok-chain_cells.field-0 ∷ []) c.loop-at.invariant.rows
          ∙ ap (λ (v : List (List ℕ)). (chain_head telling ∷ map cells (take at ring)) ++ v ∷ []) (c.in_ok-chain_cells.ensures ∙ ap cells c.member_at-member.ensures));
    }
