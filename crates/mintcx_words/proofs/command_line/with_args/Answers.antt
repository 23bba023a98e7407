use Rattle.mintcx_words.proofs.LineLaws.{rules_added}
use Rattle.mintcx_words.proofs.command_line.with_args.Goals as goal

pub returns : goal.returns
returns c = rules_added c.args.command c.args.more.items c.in_ok-longer.longer c.requires.command c.requires.args c.in_ok-longer.ensures
