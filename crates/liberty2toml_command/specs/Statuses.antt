-- The number of each status.
use Rattle.std.specs.Prelude.{ℕ}
use Rattle.liberty2toml_command.specs.declared.status.Status.{Status}
use Rattle.liberty2toml_command.specs.declared.status.Status.TheVariants.{Done, Refused, Usage, ReadFault, WriteFault}
use Rattle.liberty2toml_command.specs.declared.status.Status.TheVariants.{OutOfMemory}

-- the exit status
abbrev pub number_of : Status → ℕ
number_of Done = 0
number_of Refused = 2
number_of Usage = 3
number_of ReadFault = 4
number_of WriteFault = 5
number_of OutOfMemory = 6
