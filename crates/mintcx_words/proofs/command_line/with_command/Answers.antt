use Rattle.mintcx_words.specs.CommandLine.{command_of}
use Rattle.mintcx_words.proofs.LineLaws.{command_added}
use Rattle.mintcx_words.proofs.command_line.with_command.Goals as goal

pub returns : goal.returns
returns c =
    command_added c.args.program c.in_ok-command.command c.in_ok-larger.larger (command_of c.args.words c.args.asked) c.requires c.in_ok-command.ensures c.in_ok-larger.ensures
