use Rattle.mintc_slack.specs.Entries.{entry_at}
use Rattle.mintc_slack.proofs.finding.turn_to.Goals as goal

pub returns-else-is_first-clause-settled : goal.returns-else-is_first-clause-settled
returns-else-is_first-clause-settled g c = c.requires.settled (entry_at c.args.entries.now c.args.place).to c.if-is_first.ensures
