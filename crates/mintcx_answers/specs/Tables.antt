-- Designs as one table, of the bytes of their files.
use Rattle.std.specs.Prelude.{ℕ, List, Option}
use Rattle.mintc_text.specs.declared.limits.Most.{Most}
use Rattle.mintc_timing.specs.Design.{Design, Timing}
use Rattle.mintc_command_answers.specs.Sources.{AreShort}
use Rattle.mintc_command_answers.specs.declared.command.Source.{Source}
use Rattle.mintcx_tables.specs.Obstacles.{IsObstacle}
use Rattle.mintcx_tables.specs.Tables.{IsTableOf}
use Rattle.mintcx_answers.specs.Shown.{IsSystemFor}
use Rattle.mintcx_answers.specs.declared.tables.Tabled.{Tabled}
use Rattle.mintcx_answers.specs.declared.tables.Tabled.TheVariants.{Said, Unsaid}

-- a design's table, or a name that no table can have
abbrev pub IsTabled : Design → Tabled → Type 0
IsTabled d (Said text) = IsTableOf d text
IsTabled d (Unsaid obstacle) = IsObstacle d obstacle

-- the table of the design at hand, or of the one that files give
abbrev pub IsOfFiles : Most → Option Design → Source → List (List ℕ) → Tabled → Type 0
IsOfFiles most shown from files told = (t : Timing) × IsSystemFor most shown from files t × IsTabled t.flat told

-- A design as one table, on the bytes of its files, of which none is refused; the design at hand where there is one.
abbrev pub HasTable : Most → Option Design → Source → List (List ℕ) → Tabled → Type 0
HasTable most shown from files told = AreShort most files × IsOfFiles most shown from files told
