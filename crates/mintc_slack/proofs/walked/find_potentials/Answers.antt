use Rattle.std.proofs.Common.{ap, ◌∙◌, arith}
use Rattle.mintc_constraints.specs.Ordinary.{Constraints}
use Rattle.mintc_slack.proofs.WalkedLaws.{are_within, bounded}
use Rattle.mintc_slack.proofs.walked.find_potentials.Goals as goal

pub returns-clause-potentials : goal.returns-clause-potentials
returns-clause-potentials g c = record {
  ordinary = c.nodes.ensures.kept;
  cycle = c.requires.cycle;
  count = c.walk_from.ensures.walked.count;
  met = c.walk_from.ensures.walked.met;
  small = λ node below.
      let count = ap (λ (l : Constraints). l.nodes) c.requires.list in
      are_within c.args.system.now c.args.list.now c.requires.list c.args.at.now 0 c.begin.new.room.values c.walk_from.new.room.values
      c.requires.cycle c.nodes.ensures.kept c.requires.short
      (bounded c.args.list.now c.args.at.now c.args.hub c.begin.new.room.values (c.begin.ensures.count ∙ c.nodes.ensures.value) c.begin.ensures.here
      (rw c.nodes.ensures.value at c.begin.ensures.others) 0)
      c.walk_from.ensures.within node (omega arith);
}
