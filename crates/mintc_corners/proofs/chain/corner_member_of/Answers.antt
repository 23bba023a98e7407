use Rattle.std.proofs.Common.{arith}
use Rattle.std.proofs.lemmas.Grind.{common_steps}
use Rattle.mintc_corners.proofs.SharedMemberLaws.{listed, standing}
use Rattle.mintc_corners.proofs.chain.corner_member_of.Goals as goal

pub member_of-requires : goal.member_of-requires
member_of-requires c =
    listed c.args.systems.now c.args.lists.now c.requires.lists c.corner_of_link-corner.result.0 c.corner_of_link-corner.result.1 c.args.number c.corner_of_link-corner.ensures
    c.index-lists-corner.result c.index-lists-corner.is c.index-systems-corner.result c.index-systems-corner.is c.items.result.now c.items.ensures.value _

pub returns-clause-member : goal.returns-clause-member
returns-clause-member c =
    standing c.args.systems.now c.args.lists.now c.requires.lists c.corner_of_link-corner.result.0 c.corner_of_link-corner.result.1 c.args.number c.corner_of_link-corner.ensures
    c.index-lists-corner.result c.index-lists-corner.is c.index-systems-corner.result c.index-systems-corner.is c.items.result.now c.items.ensures.value _
    c.requires.few c.requires.alike c.requires.elements c.requires.kept c.in_ok-member.member c.number_of.result c.number_of.ensures c.in_ok-member.ensures

pub bounds-items-own : goal.bounds-items-own
bounds-items-own c = grind (arith, common_steps)

pub offset_bounds-systems-corner : goal.offset_bounds-systems-corner
offset_bounds-systems-corner c = grind (arith, common_steps)

pub bounds-systems-corner : goal.bounds-systems-corner
bounds-systems-corner c = grind (arith, common_steps)

pub index_mut-requires : goal.index_mut-requires
index_mut-requires c = grind (arith, common_steps)

pub number_of-requires : goal.number_of-requires
number_of-requires c = grind (arith, common_steps)
