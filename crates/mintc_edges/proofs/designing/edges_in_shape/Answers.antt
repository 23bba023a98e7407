use Rattle.std.proofs.Common.{◌∙◌, sym, subst, arith}
use Rattle.std.proofs.lemmas.Result.{err_from_is_err_and}
use Rattle.mintc_timing.specs.Limits.{HasParts}
use Rattle.mintc_edges.specs.Apart.{too_many}
use Rattle.mintc_edges.specs.Gathered.{design_of_gathered}
use Rattle.mintc_edges.specs.Numbers.{sense_of}
use Rattle.mintc_edges.proofs.BoundedLaws.{has-parts}
use Rattle.mintc_edges.proofs.GatheredLaws.{as-stored, few-kept, is-made, made-of, built, stops-gathering}
use Rattle.mintc_edges.proofs.designing.edges_in_shape.Goals as goal

pub gather-requires-clause-edges : goal.gather-requires-clause-edges
gather-requires-clause-edges c = c.edge_delays_have_edges.ensures c.requires.delays.0 c.args.delays.now.items c.requires.delays.1

pub build-requires-clause-parts : goal.build-requires-clause-parts
build-requires-clause-parts c =
    let h = c.args.sources.now.hierarchy.now in
    let cells = c.args.sources.now.cells.now in
    let senses = c.args.sources.now.senses.now in
    let clock = c.args.sources.now.clock.now in
    let ds = c.args.delays.now.items in
    let g = c.in_ok-gathered.gathered in
    let are = c.in_ok-gathered.ensures.0 in
    let resolved = c.in_ok-gathered.ensures.1 in
    let edges = c.edge_delays_have_edges.ensures c.requires.delays.0 ds c.requires.delays.1 in
    let sound = c.edge_delays_are_within.ensures c.requires.delays.0 ds c.requires.delays.1 in
    let keeps = c.clocks_keep_limits.ensures c.requires.clock.0 clock c.requires.clock.2 in
    subst HasParts (sym (is-made h cells clock g are senses ds edges resolved))
    (has-parts h cells c.requires.shape c.count-count.ensures.kept.each (sense_of senses cells) clock ds sound g.phases are.traced keeps are.ports resolved.annotates)

pub build-requires-clause-few : goal.build-requires-clause-few
build-requires-clause-few c =
    let g = c.in_ok-gathered.gathered in
    let few = few-kept g.told c.args.sources.now.senses.now c.args.sources.now.hierarchy.now c.args.sources.now.cells.now c.args.sources.now.clock.now g.phases
    (as-stored c.args.sources.now.hierarchy.now c.args.sources.now.cells.now c.args.sources.now.clock.now g c.in_ok-gathered.ensures.0) c.args.limits.now (sym c.limit.ensures.refusal ∙ c.in-None.is) in
    omega (arith, few, c.limit.ensures.kept.elements)

pub returns-in-Some : goal.returns-in-Some
returns-in-Some c =
    let h = c.args.sources.now.hierarchy.now in
    let cells = c.args.sources.now.cells.now in
    let senses = c.args.sources.now.senses.now in
    let clock = c.args.sources.now.clock.now in
    let ds = c.args.delays.now.items in
    let g = c.in_ok-gathered.gathered in
    let edges = c.edge_delays_have_edges.ensures c.requires.delays.0 ds c.requires.delays.1 in
    let made = made-of h cells clock g c.in_ok-gathered.ensures.0 senses ds edges c.in_ok-gathered.ensures.1 in
    too_many (design_of_gathered h cells senses clock g) made (sym c.limit.ensures.refusal ∙ c.in-Some.is)

pub returns : goal.returns
returns c =
    let h = c.args.sources.now.hierarchy.now in
    let cells = c.args.sources.now.cells.now in
    let senses = c.args.sources.now.senses.now in
    let clock = c.args.sources.now.clock.now in
    let ds = c.args.delays.now.items in
    let g = c.in_ok-gathered.gathered in
    let edges = c.edge_delays_have_edges.ensures c.requires.delays.0 ds c.requires.delays.1 in
    let made = made-of h cells clock g c.in_ok-gathered.ensures.0 senses ds edges c.in_ok-gathered.ensures.1 in
    built c.args.limits.now h cells (sense_of senses cells) clock ds (design_of_gathered h cells senses clock g) c.build.result made (sym c.limit.ensures.refusal ∙ c.in-None.is) c.build.ensures

pub returns-in_err-gathered : goal.returns-in_err-gathered
returns-in_err-gathered c =
    let p = err_from_is_err_and c.from_residual.result c.from_residual.ensures.1 in
    rw (p.1, p.2) (stops-gathering c.args.sources.now.hierarchy.now c.args.sources.now.cells.now c.args.sources.now.clock.now c.args.delays.now.items c.args.limits.now
    (sense_of c.args.sources.now.senses.now c.args.sources.now.cells.now) c.in_err-gathered.field-0.0 c.in_err-gathered.ensures)
