use Rattle.std.proofs.Common.{refl, arith, rules, SFits, ◌∙◌}
use Rattle.std.specs.Int.{w128}
use Rattle.std.proofs.lemmas.Int.{to_z-of_z}
use Rattle.mintc_ratio.specs.Climbing.{most_halvings}
use Rattle.mintc_ratio.proofs.GridLaws.{read_top}
use Rattle.mintc_ratio.proofs.searching.search_from.Goals as goal

pub loop-outcome-init : goal.loop-outcome-init
loop-outcome-init g c =
    let kept = c.nodes.ensures.kept in
    let top = read_top c.nodes.result c.args.links.now.nodes c.top_of-high.result c.nodes.ensures.value kept.nodes.1 c.top_of-high.ensures in
    record { climbing = λ start s. (most_halvings c.args.links.now.nodes, rw top s); nodes = refl; links = refl; late = refl; early = refl; later = omega arith }

pub take_turn-requires-clause-climbing : goal.take_turn-requires-clause-climbing
take_turn-requires-clause-climbing g c =
    let start = c.requires.climbing in
    let s = c.loop-outcome.invariant.climbing start.0 start.1 in
    (start.0, s.0, s.1)

pub returns-in-Over-clause-searched : goal.returns-in-Over-clause-searched
returns-in-Over-clause-searched g c =
    let start = c.requires.climbing in
    let s = c.loop-outcome.invariant.climbing start.0 start.1 in
    (c.in-Over.ensures.advanced start.0 s.0 s.1).0

pub returns-in-Over-clause-cost : goal.returns-in-Over-clause-cost
returns-in-Over-clause-cost g c = λ start begun.
    let s = c.loop-outcome.invariant.climbing start begun in
    (c.in-Over.ensures.advanced start s.0 s.1).1

pub loop-outcome-smaller : goal.loop-outcome-smaller
loop-outcome-smaller g c =
    let start = c.requires.climbing in
    let s = c.loop-outcome.invariant.climbing start.0 start.1 in
    let few = s.1.few in
    let begun = start.1.later in
    let more = c.in-On.ensures.some in
    omega arith

pub loop-outcome-preserved : goal.loop-outcome-preserved
loop-outcome-preserved g c = let fits : SFits w128 c.in-On.lower = search rules in record {
  climbing = λ start begun. let s = c.loop-outcome.invariant.climbing start begun in rw (to_z-of_z w128 c.in-On.lower fits) (c.in-On.ensures.advanced start s.0 s.1);
  nodes = c.in-On.ensures.nodes ∙ c.loop-outcome.invariant.nodes;
  links = c.in-On.ensures.links ∙ c.loop-outcome.invariant.links;
  late = c.in-On.ensures.late ∙ c.loop-outcome.invariant.late;
  early = c.in-On.ensures.early ∙ c.loop-outcome.invariant.early;
  later = let before = c.loop-outcome.invariant.later in let more = c.in-On.ensures.some in omega arith;
}
