use Rattle.std.proofs.Common.{◌∙◌, subst}
use Rattle.mintc_ratio.specs.From.{AreGreatestFrom}
use Rattle.mintc_slack.proofs.WalkedLaws.{are_settled, back_of, bounded}
use Rattle.mintc_slack.proofs.walked.longest_walks_by_passes.Goals as goal

pub walk_from-requires-clause-back : goal.walk_from-requires-clause-back
walk_from-requires-clause-back g c =
    rw (c.element_node-node.ensures.value, c.flat.ensures.value, c.requires.list) (back_of c.args.system.now c.flat.ensures.design c.args.number c.requires.number)

pub returns-clause-settled : goal.returns-clause-settled
returns-clause-settled g c =
    are_settled c.args.system.now c.args.list.now c.requires.list c.args.at.now c.args.number c.begin.new.room.values c.walk_from.new.room.values
    c.requires.cycle c.nodes.ensures.kept c.requires.short
    (bounded c.args.list.now c.args.at.now c.element_node-node.result c.begin.new.room.values (c.begin.ensures.count ∙ c.nodes.ensures.value) c.begin.ensures.here
    (rw c.nodes.ensures.value at c.begin.ensures.others) 0)
    c.walk_from.ensures.within
    (subst (λ node. AreGreatestFrom c.args.list.now c.args.at.now node c.walk_from.new.room.values) (rw c.flat.ensures.value at c.element_node-node.ensures.value) c.walk_from.ensures.walked)
