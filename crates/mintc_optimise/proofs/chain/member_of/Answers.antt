use Rattle.std.proofs.Common.{◌∙◌, w64}
use Rattle.std.proofs.lemmas.Int.{to_z-of_z}
use Rattle.mintc_timing.specs.declared.link.LinkKind.TheVariants as kind
use Rattle.mintc_optimise.proofs.SharedStandingLaws.{of_kind, reach_stands}
use Rattle.mintc_optimise.proofs.chain.member_of.Goals as goal

pub returns-in-Start : goal.returns-in-Start
returns-in-Start c = of_kind c.args.system.now c.flat-flat.ensures.design c.args.link.now (kind.Start c.in-Start.phase) c.in-Start.is c.requires

pub returns-in-Cycle : goal.returns-in-Cycle
returns-in-Cycle c = of_kind c.args.system.now c.flat-flat.ensures.design c.args.link.now (kind.Cycle c.in-Cycle.phase) c.in-Cycle.is c.requires

pub returns-in-Order : goal.returns-in-Order
returns-in-Order c = of_kind c.args.system.now c.flat-flat.ensures.design c.args.link.now (kind.Order c.in-Order.phase) c.in-Order.is c.requires

pub returns-in-Span : goal.returns-in-Span
returns-in-Span c = of_kind c.args.system.now c.flat-flat.ensures.design c.args.link.now (kind.Span c.in-Span.phase) c.in-Span.is c.requires

pub returns-in-Width : goal.returns-in-Width
returns-in-Width c = of_kind c.args.system.now c.flat-flat.ensures.design c.args.link.now (kind.Width c.in-Width.phase) c.in-Width.is c.requires

pub returns-in-Apart : goal.returns-in-Apart
returns-in-Apart c = of_kind c.args.system.now c.flat-flat.ensures.design c.args.link.now (kind.Apart c.in-Apart.i c.in-Apart.j) c.in-Apart.is c.requires

pub returns-in-Opening : goal.returns-in-Opening
returns-in-Opening c = of_kind c.args.system.now c.flat-flat.ensures.design c.args.link.now (kind.Opening c.in-Opening.element) c.in-Opening.is c.requires

pub returns-in-Opened : goal.returns-in-Opened
returns-in-Opened c = of_kind c.args.system.now c.flat-flat.ensures.design c.args.link.now (kind.Opened c.in-Opened.element) c.in-Opened.is c.requires

pub returns-in-Setup : goal.returns-in-Setup
returns-in-Setup c = of_kind c.args.system.now c.flat-flat.ensures.design c.args.link.now (kind.Setup c.in-Setup.element) c.in-Setup.is c.requires

pub returns-in-Bound : goal.returns-in-Bound
returns-in-Bound c = of_kind c.args.system.now c.flat-flat.ensures.design c.args.link.now (kind.Bound c.in-Bound.index) c.in-Bound.is c.requires

pub unreachable-requires : goal.unreachable-requires
unreachable-requires c = of_kind c.args.system.now c.flat-flat.ensures.design c.args.link.now (kind.Other c.in-Other.index) c.in-Other.is c.requires

pub returns-in_ok-arcs-in-Reach : goal.returns-in_ok-arcs-in-Reach
returns-in_ok-arcs-in-Reach c =
    reach_stands c.args.system.now c.flat-flat.ensures.design c.flat-flat.ensures.kept c.args.link.now c.in-Reach.from c.in-Reach.to c.in_ok-arcs-in-Reach.arcs
    (of_kind c.args.system.now c.flat-flat.ensures.design c.args.link.now (kind.Reach c.in-Reach.from c.in-Reach.to) c.in-Reach.is c.requires)
    c.in_ok-arcs-in-Reach.ensures.path c.pair_delay-delay.result c.pair_delay-delay.ensures.value
    (c.in_ok-arcs-in-Reach.ensures.delay ∙ to_z-of_z w64 c.pair_delay-delay.result (record { sfits = c.pair_delay-delay.type_inv }))
