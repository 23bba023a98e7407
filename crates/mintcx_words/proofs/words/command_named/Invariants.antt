use Rattle.std.proofs.Common.{◌≡◌, drop}
use Rattle.std.specs.Prelude.{bytes_eq, find}
use Rattle.mintcx_requests.specs.Commands.{command_named, word_of}
use Rattle.mintcx_requests.specs.declared.commands.TheConstants.{COMMANDS}
use Rattle.mintcx_words.proofs.words.command_named.Given as goal

-- it is among the commands that are left
abbrev pub invariant-loop-asked : goal.invariant-loop-asked
invariant-loop-asked l = find (λ asked. bytes_eq (word_of asked) l.name) (drop l.asked-index COMMANDS) ≡ command_named l.name
