-- The number of each status.
use Rattle.std.specs.Prelude.{ℕ}
use Rattle.mintc_command_answers.specs.declared.status.Status.{Status}
use Rattle.mintc_command_answers.specs.declared.status.Status.TheVariants.{Done, Found, Refused, Usage, ReadFault}
use Rattle.mintc_command_answers.specs.declared.status.Status.TheVariants.{WriteFault, OutOfMemory}

-- the exit status
abbrev pub number_of : Status → ℕ
number_of Done = 0
number_of Found = 1
number_of Refused = 2
number_of Usage = 3
number_of ReadFault = 4
number_of WriteFault = 5
number_of OutOfMemory = 6
