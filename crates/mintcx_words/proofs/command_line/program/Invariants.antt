use Rattle.std.proofs.Common.{◌≡◌, false, drop}
use Rattle.std.specs.List.{fold}
use Rattle.clap.specs.Words.{app_of}
use Rattle.clap.specs.declared.builder.command.Command.TheViews.{out-Command}
use Rattle.mintcx_words.specs.CommandLine.{program_of, with_command}
use Rattle.mintcx_requests.specs.declared.commands.TheConstants.{COMMANDS}
use Rattle.mintcx_words.proofs.command_line.program.Given as goal

-- with the commands that are left it is the program
abbrev pub invariant-loop-asked : goal.invariant-loop-asked
invariant-loop-asked l = (fold (with_command l.words) (app_of l.command) (drop l.asked-index COMMANDS) ≡ program_of l.words) × ((out-Command l.command).has_globals ≡ false)
