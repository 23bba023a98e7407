use Rattle.std.proofs.Common.{ap, ◌∙◌, sym, subst, arith}
use Rattle.std.proofs.lemmas.Bool.{OnTrue_at}
use Rattle.std.specs.List.{All}
use Rattle.mintc_constraints.specs.Ordinary.{Constraints}
use Rattle.mintc_slack.specs.declared.walked.SlackWalks.{SlackWalks}
use Rattle.mintc_slack.specs.Gaps.{AreShortest, IsInside}
use Rattle.mintc_slack.proofs.GapLaws.{inside-all, settled-by}
use Rattle.mintc_slack.proofs.walked.longest_walks_from.Goals as goal

pub shortest_distances-requires-clause-gaps : goal.shortest_distances-requires-clause-gaps
shortest_distances-requires-clause-gaps g c =
    let w = c.args.walker.now in
    let ready = c.requires.ready in
    subst (λ n. All (IsInside n) w.rows.gaps.items) (sym ready.count)
    (inside-all w.list.now w.at.now w.potentials.items ready.gaps.potentials_are w.rows.gaps.items ready.gaps.permutation)

pub returns-then-branch-clause-settled : goal.returns-then-branch-clause-settled
returns-then-branch-clause-settled g c =
    let w = c.args.walker.now in
    let v = c.shortest_distances.new.walker in
    let ready = c.requires.ready in
    let kept = c.shortest_distances.ensures.kept in
    let nodes = ap (λ (l : Constraints). l.nodes) ready.links in
    let at_node = rw c.flat.ensures.value at c.element_node-node.ensures.value in
    let short = OnTrue_at c.if-branch.true c.in_ok-shortest_distances.ensures.shortest in
    settled-by w.system.now w.list.now w.at.now w.hub w.potentials.items w.rows.gaps.items c.args.number v.distances.items c.write.new.room.values ready.links ready.gaps
    (c.shortest_distances.ensures.count ∙ ready.count) (omega arith)
    (rw at_node at (subst (λ (x : SlackWalks). AreShortest x.hub x.rows.gaps.items c.element_node-node.result v.distances.items) kept short))
    (rw c.deref-then-branch.ensures.value at c.write.ensures.count)
    (rw (c.deref.ensures.value, c.deref-then-branch.ensures.value, at_node, ap (λ (x : SlackWalks). x.potentials.items) kept) at c.write.ensures.values)
