use Rattle.std.proofs.Common.{◌≡◌, refl, ap, arith}
use Rattle.std.proofs.lemmas.Grind.{common_steps}
use Rattle.mintc_constraints.specs.Ordinary.{Constraints}
use Rattle.mintc_slack.specs.Gaps.{ArePotentials}
use Rattle.mintc_slack.proofs.GapLaws.{inside-all}
use Rattle.mintc_slack.proofs.walked.prepare.Goals as goal

pub find_potentials-requires-clause-inside : goal.find_potentials-requires-clause-inside
find_potentials-requires-clause-inside g c =
    let count = ap (λ (l : Constraints). l.nodes) c.requires.list in
    let inside = c.hub_of-hub.ensures.inside in
    omega arith

pub find_potentials-requires-clause-back : goal.find_potentials-requires-clause-back
find_potentials-requires-clause-back g c = rw c.requires.list c.hub_of-hub.ensures.back

pub homes-requires-clause-gaps : goal.homes-requires-clause-gaps
homes-requires-clause-gaps g c =
    let list = c.args.list.now in
    let at = c.args.at.now in
    let p = c.deref.result.now in
    let are : ArePotentials list at p = rw (c.deref.ensures.value, c.in_ok-potentials.ensures.items_if_clones_equal, c.values.ensures) c.find_potentials.ensures.potentials in
    rw (c.deref-2.ensures.value, c.nodes-nodes.ensures.value) (inside-all list at p are c.in_ok-gaps.gaps.items c.in_ok-gaps.ensures)

pub returns-clause-ready : goal.returns-clause-ready
returns-clause-ready g c = record {
  system = refl;
  list_is = refl;
  at_is = refl;
  links = c.requires.list;
  cycle = c.requires.cycle;
  short = c.requires.short;
  hub = (let count = ap (λ (l : Constraints). l.nodes) c.requires.list in let inside = c.hub_of-hub.ensures.inside in omega arith);
  gaps = record {
    potentials_are = rw (c.in_ok-potentials.ensures.items_if_clones_equal, c.values.ensures) c.find_potentials.ensures.potentials;
    greatest = rw (c.in_ok-potentials.ensures.items_if_clones_equal, c.values.ensures) c.find_potentials.ensures.greatest;
    permutation = rw c.deref.ensures.value at c.in_ok-gaps.ensures;
  };
  rows = rw (c.deref-4.ensures.value, c.deref-5.ensures.value) at c.are_in_rows-in_rows.ensures;
  count = grind (arith, common_steps, c.in_ok-distances.ensures.len, c.nodes-nodes.ensures.value);
}
