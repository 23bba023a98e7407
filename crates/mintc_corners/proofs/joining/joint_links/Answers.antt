use Rattle.std.proofs.Common.{arith, ◌++◌, List, map, sym, ap, ◌∙◌}
use Rattle.std.proofs.lemmas.Grind.{common_steps}
use Rattle.mintc_timing.specs.declared.link.Link.{Link}
use Rattle.mintc_timing.specs.Links.{links_of}
use Rattle.mintc_constraints.specs.Ordinary.{Constraints, IsOrdinary, constraints_of}
use Rattle.mintc_corners.specs.Lifted.{lifted_link, widest}
use Rattle.mintc_corners.specs.Joined.{joined_links}
use Rattle.mintc_corners.specs.Joint.{joint_nodes}
use Rattle.mintc_corners.proofs.LoopLaws.{elements_done, elements_more, joined_done, joined_more, list_at, low_at, nodes_of}
use Rattle.mintc_corners.proofs.SharedPlaceLaws.{by_first, joined_ordinary}
use Rattle.mintc_corners.proofs.joining.joint_links.Goals as goal

pub append_corner-requires-clause-links : goal.append_corner-requires-clause-links
append_corner-requires-clause-links c =
    low_at c.args.systems.now c.args.lists.now c.requires.lists c.loop-corner.corner c.index-lists-corner.result c.loop-corner-test.true c.index-lists-corner.is
    c.items.result.now c.requires.kept c.items.ensures.value

pub loop-corner-preserved : goal.loop-corner-preserved
loop-corner-preserved c =
    let systems = c.args.systems.now in
    let i = c.loop-corner.corner in
    let t = c.index-systems-corner.result in
    let list = list_at systems c.args.lists.now c.requires.lists i c.index-lists-corner.result c.loop-corner-test.true c.index-lists-corner.is t in
    let links = c.items.ensures.value ∙ ap (λ (x : Constraints). x.links) list ∙ ap links_of (sym c.index-systems-corner.is) in
    let step = c.in_ok-append_corner.ensures ∙ ap (λ (ks : List Link). c.loop-corner.items.items ++ map (lifted_link (widest systems) c.clock_nodes-clock.result c.loop-corner.before) ks) links in
    rw (c.element_count-before.ensures.value, c.flat.ensures.value) (
      joined_more systems i t c.loop-corner-test.true c.index-systems-corner.is (widest systems) c.clock_nodes-clock.result c.loop-corner.before c.loop-corner.items.items
          c.append_corner.new.items.items (joined_links systems) c.loop-corner.invariant.0 step,
      elements_more systems i t c.loop-corner-test.true c.index-systems-corner.is c.loop-corner.before _ c.loop-corner.invariant.1,
    )

pub new-requires : goal.new-requires
new-requires c =
    let systems = c.args.systems.now in
    let items = joined_done systems c.loop-corner.corner (widest systems) c.clock_nodes-clock.result c.loop-corner.before c.loop-corner.items.items (joined_links systems) c.loop-corner-test.false c.loop-corner.invariant.0 in
    let before = elements_done systems c.loop-corner.corner c.loop-corner.before _ c.loop-corner-test.false c.loop-corner.invariant.1 in
    let nodes = nodes_of systems c.index-systems-0.result c.clock_nodes-clock.result c.loop-corner.before c.requires.some c.index-systems-0.is c.clock_nodes-clock.ensures.value before in
    rw (items, nodes) (by_first (λ ts. IsOrdinary (constraints_of (joint_nodes ts) (joined_links ts))) joined_ordinary systems c.requires.few c.requires.alike c.requires.elements c.requires.kept)

pub bounds-lists-corner : goal.bounds-lists-corner
bounds-lists-corner c = grind (arith, common_steps)

pub returns : goal.returns
returns c = grind (arith, common_steps)
