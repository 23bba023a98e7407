-- The commands, and their words.
use Rattle.std.specs.Prelude.{ℕ, Bool, true, false, List, [], ◌∷◌, Option, find, bytes_eq, codes}
use Rattle.mintcx_requests.specs.declared.commands.Asked.{Asked}
use Rattle.mintcx_requests.specs.declared.commands.Asked.TheVariants.{Check, Optimise, Verify, Report, Safe, Slack}
use Rattle.mintcx_requests.specs.declared.commands.Asked.TheVariants.{Corners, Schedule, Sdc, Draw, Table}
use Rattle.mintcx_requests.specs.declared.commands.Asked.TheVariants.{Explain}

-- the commands, in the order of the help
abbrev pub commands : List Asked
commands = Check ∷ Optimise ∷ Verify ∷ Report ∷ Safe ∷ Slack ∷ Corners ∷ Schedule ∷ Sdc ∷ Draw ∷ Table ∷ Explain ∷ []

-- the word by which a command is called
abbrev pub word_of : Asked → List ℕ
word_of Check = codes "check"
word_of Optimise = codes "optimise"
word_of Verify = codes "verify"
word_of Report = codes "report"
word_of Safe = codes "safe"
word_of Slack = codes "slack"
word_of Corners = codes "corners"
word_of Schedule = codes "schedule"
word_of Sdc = codes "sdc"
word_of Draw = codes "draw"
word_of Table = codes "table"
word_of Explain = codes "explain"

-- one delay file is taken, and so a table may stand for the files
abbrev pub has_table : Asked → Bool
has_table Corners = false
has_table _ = true

-- the answer has rows that a limit may cut
abbrev pub has_rows : Asked → Bool
has_rows Check = true
has_rows Optimise = true
has_rows Report = true
has_rows Safe = true
has_rows Slack = true
has_rows Corners = true
has_rows _ = false

-- the command of a word
abbrev pub command_named : List ℕ → Option Asked
command_named name = find (λ asked. bytes_eq (word_of asked) name) commands
