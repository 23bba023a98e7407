use Rattle.std.proofs.Common.{arith, ◌<◌, ◌^◌, pos, length, refl, lit<}
use Rattle.std.proofs.lemmas.Grind.{common_steps}
use Rattle.std.specs.Int.{w64, w128}
use Rattle.std.proofs.lemmas.Int.{to_z-of_z}
use Rattle.std.proofs.lemmas.List.{length-map}
use Rattle.mintc_fraction.specs.Ratio.{over}
use Rattle.mintc_timing.specs.declared.link.LinkKind.TheVariants as kind
use Rattle.mintc_timing.specs.Links.{link, link_at}
use Rattle.mintc_constraints.specs.Ordinary.{IsOrdinaryLink}
use Rattle.mintc_graph_walks.specs.Bounds.{IsWithin}
use Rattle.mintc_ratio.proofs.Weights.{fits_64, fits_128, num_within, den_within}
use Rattle.mintc_ratio.proofs.Weighing.{arc_is, delay-within}
use Rattle.mintc_ratio.proofs.weighed.LinksAtNetwork.arc.Goals as goal

pub returns : goal.returns
returns c =
    let w = c.args.self.now in
    let links = w.links.now in
    let below : c.args.number < length links = simp length-map at c.requires in
    let ordinary : IsOrdinaryLink w.nodes (link_at links c.args.number) = w.ordinary c.args.number (link (kind.Other 0) 0 0 (pos 0) 0) below in
    let d = (link_at links c.args.number).delay in
    let delay : IsWithin 4000000000 d = delay-within w.nodes (link_at links c.args.number) ordinary in
    let value = rw (
      c.nth_link-link.ensures,
      to_z-of_z w64 d (fits_64 4000000000 d (lit< tt) delay),
      to_z-of_z w128 w.num (fits_128 (10 ^ 23) w.num (lit< tt) (num_within d d w.num w.den refl delay w.time)),
      to_z-of_z w128 w.den (fits_128 (10 ^ 9) w.den (lit< tt) (den_within d d w.num w.den refl delay w.time)),
    ) at c.weight.ensures.value in
    rw c.nth_link-link.ensures (arc_is (over w.num w.den) links c.args.number c.weight.result below value c.weight.ensures.small)

pub nth_link-link-requires : goal.nth_link-link-requires
nth_link-link-requires c = grind (arith, common_steps)

pub weight-requires-clause-delay : goal.weight-requires-clause-delay
weight-requires-clause-delay c = grind (arith, common_steps)

pub weight-requires-clause-cycles : goal.weight-requires-clause-cycles
weight-requires-clause-cycles c = grind (arith, common_steps)
