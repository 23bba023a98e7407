use Rattle.mintcx_judgements.proofs.RuleLaws.{some_cycles}
use Rattle.mintcx_judgements.proofs.rules.put_less.Goals as goal

pub returns : goal.returns
returns c = rw (some_cycles c.args.cycles c.if-cycles-eq0.false) c.put.ensures.ok
