use Rattle.std.proofs.Common.{arith}
use Rattle.mintc_timing.proofs.SharedLinkLaws.{ends_of}
use Rattle.mintc_slack.proofs.SearchLaws.{hopeless_of, is_modest, is_short, least_of}
use Rattle.mintc_slack.proofs.finding.slack.Goals as goal

pub returns-in-Never : goal.returns-in-Never
returns-in-Never g c =
    hopeless_of c.args.system.now c.links.ensures.design (ends_of c.args.system.now c.links.ensures.kept.extremes) c.in_ok-list.list c.in_ok-list.ensures.links c.search.new.room
    c.in-Never.ensures.searched.0 c.in-Never.ensures.searched.1

-- few elements make few nodes
pub extras-requires-clause-short : goal.extras-requires-clause-short
extras-requires-clause-short g c =
    let phases = c.links.ensures.design.phases.1 in
    let elements = c.requires in
    omega (arith, c.in_ok-list.ensures.nodes, phases, elements)

pub extras-requires-clause-cycle : goal.extras-requires-clause-cycle
extras-requires-clause-cycle g c =
    let phases = c.links.ensures.design.phases.1 in
    let elements = c.requires in
    is_short c.in_ok-list.list c.in-Least.cycle c.search.new.room c.in-Least.ensures.searched (omega (arith, c.in_ok-list.ensures.nodes, phases, elements))

pub extras-requires-clause-least : goal.extras-requires-clause-least
extras-requires-clause-least g c =
    least_of c.args.system.now c.links.ensures.design (ends_of c.args.system.now c.links.ensures.kept.extremes) c.in_ok-list.list c.in_ok-list.ensures.links c.search.new.room
    c.in-Least.cycle c.in-Least.ensures.searched

pub returns : goal.returns
returns g c = record {
  least = least_of c.args.system.now c.links.ensures.design (ends_of c.args.system.now c.links.ensures.kept.extremes) c.in_ok-list.list c.in_ok-list.ensures.links c.search.new.room
      c.in-Least.cycle c.in-Least.ensures.searched;
  lowest = c.in-Least.ensures.searched.cycle_is.lowest;
  modest = is_modest c.in-Least.cycle c.in-Least.ensures.searched.cycle_is;
  slacks = c.in_ok-extra-in-Least.ensures;
}
