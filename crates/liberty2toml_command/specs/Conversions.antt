-- What a conversion answers, and what it leaves.
use Rattle.std.specs.Prelude.{◌≡◌, ◌≤◌, ◌<◌, ◌+◌, ◌⊎◌, ℕ, List, [], ◌∷◌, length, map, codes, Option, Some, None, Ok}
use Rattle.std.specs.Prelude.{Err, String}
use Rattle.std.specs.String.{string_bytes}
use Rattle.mintc_text.specs.Lines.{ended}
use Rattle.mintc_text.specs.Outside.{Files, IsFront, Takes, TakesFront}
use Rattle.mintc_text.specs.declared.refusals.Refusal.{Refusal}
use Rattle.mintc_text.specs.declared.refusals.Refusal.TheVariants.{Syntax, TooLong}
use Rattle.mintc_text.specs.declared.refusals.Role.TheVariants as role
use Rattle.mintc_text.specs.Refusals.{refusal_line}
use Rattle.mintc_cells.specs.declared.cell.Cell.{Cell}
use Rattle.mintc_cells.specs.CellsOf.{AreCells}
use Rattle.mintc_liberty.specs.Meaning.{liberty_cells}
use Rattle.liberty2toml_command.specs.declared.answer.TheConstants.{MOST_BYTES}
use Rattle.liberty2toml_command.specs.declared.status.Status.{Status}
use Rattle.liberty2toml_command.specs.declared.status.Status.TheVariants.{Done, Refused, Usage, ReadFault, WriteFault}
use Rattle.liberty2toml_command.specs.declared.status.Status.TheVariants.{OutOfMemory}

-- the bytes of each word
abbrev pub bytes_of : {Z : Type 0} → List (String Z) → List (List ℕ)
bytes_of words = map string_bytes words

-- The words are the name of one file.
abbrev pub AreName : List (List ℕ) → List ℕ → Type 0
AreName words name = words ≡ name ∷ []

-- the line that is written where they aren't
abbrev pub usage_line : List ℕ
usage_line = ended (codes "usage: liberty2toml FILE")

-- The refusal of a text: it is too long, or out of form.
abbrev pub IsRefused : List ℕ → Refusal → Type 0
IsRefused text refusal =
    ((MOST_BYTES < length text) × (refusal ≡ TooLong role.Cells))
    ⊎ ((length text ≤ MOST_BYTES) × (n : ℕ) × (liberty_cells text ≡ Err n) × (refusal ≡ Syntax role.Cells n))

-- The answer to a text: a description of its very cells, or the line of its refusal.
abbrev pub IsConverted : List ℕ → Status → List ℕ → Type 0
IsConverted text Done answer = (length text ≤ MOST_BYTES) × (cells : List (List ℕ × Cell))
    × (liberty_cells text ≡ Ok cells) × AreCells answer cells
IsConverted text Refused answer = (refusal : Refusal) × IsRefused text refusal × (answer ≡ refusal_line refusal)
IsConverted text status answer = ⊥

-- The answer to words over a shelf's files: that to the first bytes of the file that they name, one byte more than
-- a file may have, or the usage line.
abbrev pub IsAnswer : List (List ℕ) → Option Files → Status → List ℕ → Type 0
IsAnswer words files Usage text = ((name : List ℕ) → AreName words name → ⊥) × (text ≡ usage_line)
IsAnswer words files status text = (name : List ℕ) × AreName words name × (front : List ℕ)
    × IsFront files name (MOST_BYTES + 1) front × IsConverted front status text

-- What a run leaves of the bytes that the sink took: with an answer its text at the end, with a failed write a front of
-- an answer's text, and else what there was.
abbrev pub Writes : List (List ℕ) → Option Files → Status → Option (List ℕ) → Option (List ℕ) → Type 0
Writes words files ReadFault before now = now ≡ before
Writes words files OutOfMemory before now = now ≡ before
Writes words files WriteFault before now = (status : Status) × (text : List ℕ) × IsAnswer words files status text
    × TakesFront before now text
Writes words files status before now = (text : List ℕ) × IsAnswer words files status text × Takes before now text

-- The status is that of an answer to a text.
abbrev pub IsOfText : Status → Type 0
IsOfText Done = Unit {0}
IsOfText Refused = Unit {0}
IsOfText status = ⊥

-- Whatever the file of this name is read as, it isn't refused.
abbrev pub IsNotRefused : Option Files → List ℕ → Type 0
IsNotRefused files name = (front : List ℕ) (refusal : Refusal) → IsFront files name (MOST_BYTES + 1) front →
    IsRefused front refusal → ⊥

-- The status is that of a form that is written, or memory was wanting.
abbrev pub IsComplete : Status → Type 0
IsComplete Done = Unit {0}
IsComplete OutOfMemory = Unit {0}
IsComplete status = ⊥

-- The status is one that comes only after the file was read.
abbrev pub IsAfterReading : Status → Type 0
IsAfterReading Done = Unit {0}
IsAfterReading Refused = Unit {0}
IsAfterReading WriteFault = Unit {0}
IsAfterReading status = ⊥

-- The status may come where the words are no name.
abbrev pub IsOfNoName : Status → Type 0
IsOfNoName Usage = Unit {0}
IsOfNoName WriteFault = Unit {0}
IsOfNoName status = ⊥

-- At most so many calls were made, where calls are told.
abbrev pub MakesAtMost : ℕ → Option ℕ → Option ℕ → Type 0
MakesAtMost count None now = now ≡ None
MakesAtMost count (Some before) now = (after : ℕ) × (now ≡ Some after) × (after ≤ before + count)
