use Rattle.mintc_annotate.proofs.JumpLaws.{ended, goes_round}
use Rattle.mintc_annotate.proofs.searching.end_of.Goals as goal

pub returns-in-None : goal.returns-in-None
returns-in-None c = λ ds drivers ways. ended ds ways.0 c.args.table.now c.args.jumps.now c.args.start c.spot_after-end.result drivers ways.2 ways.1 c.requires.start c.spot_after-end.ensures c.in-None.is

pub returns-in-Some : goal.returns-in-Some
returns-in-Some c = λ ds drivers ways. goes_round ds ways.0 c.args.table.now c.args.jumps.now c.args.start c.spot_after-end.result c.in-Some.field-0 drivers ways.2 ways.1 c.requires.start c.spot_after-end.ensures c.in-Some.is
