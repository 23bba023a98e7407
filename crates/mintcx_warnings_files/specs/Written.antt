-- What is written of the files of a design.
use Rattle.std.specs.Prelude.{◌≡◌, ◌==◌, ◌-◌, ◌⊎◌, ℕ, List, [], ◌∷◌, ◌++◌, Option, filter, length}
use Rattle.std.specs.Prelude.{slice_index_or}
use Rattle.std.specs.List.{AllZip, concat, range_with_len}
use Rattle.mintc_text.specs.declared.limits.Most.{Most}
use Rattle.mintc_cells.specs.Entries.{name_at}
use Rattle.mintc_clock.specs.declared.clock.Listed.{Listed}
use Rattle.mintc_annotate.specs.Counts.{no_listed}
use Rattle.mintc_timing.specs.Violations.{phases_of}
use Rattle.mintcx_frame.specs.Names.{phase_name}
use Rattle.mintcx_places.specs.declared.lines.Range.{Range}
use Rattle.mintcx_lint_data.specs.declared.data.DataPath.{DataPath}
use Rattle.mintcx_lint.specs.declared.latches.SamePhase.{SamePhase}
use Rattle.mintcx_lint.specs.declared.ports.Unlisted.{Unlisted}
use Rattle.mintcx_lint_data.specs.Data.{AreDataPaths}
use Rattle.mintcx_lint.specs.Latches.{IsSamePhase, same_pairs}
use Rattle.mintcx_lint.specs.Outputs.{late_outputs}
use Rattle.mintcx_lint.specs.Ports.{IsUnlisted, unlisted}
use Rattle.mintcx_lint.specs.Storage.{storage_count}
use Rattle.mintcx_warnings.specs.declared.said.Said.{Said}
use Rattle.mintcx_warnings.specs.Data.{data_said}
use Rattle.mintcx_warnings.specs.Latches.{same_phase_said}
use Rattle.mintcx_warnings.specs.Outputs.{late_said}
use Rattle.mintcx_warnings.specs.Ports.{ports_said}
use Rattle.mintcx_warnings.specs.Warnings.{IsWarning}
use Rattle.mintcx_warnings_files.specs.declared.files.File.{File}
use Rattle.mintcx_warnings_files.specs.declared.files.Files.{Files}
use Rattle.mintcx_warnings_files.specs.declared.parts.Parts.{Parts}
use Rattle.mintcx_warnings_files.specs.Parts.{AreParts}

-- a text is the warning that says this, shown at some place of a file or at the file alone
abbrev pub IsShownIn : File → Said → List ℕ → Type 0
IsShownIn file said text = (place : Option Range) × IsWarning file.name.now file.text.now place said text

-- how many latches and flops there are
abbrev pub storage_of : Parts → ℕ
storage_of p = storage_count p.hierarchy p.cells

-- what is written of pairs of latches on one phase: the warning of them, and nothing where there are none
abbrev pub IsOfPairs : File → Parts → List ℕ → Type 0
IsOfPairs clock p text = ((same_pairs p.system (storage_of p) ≡ []) × (text ≡ []))
    ⊎ ((found : SamePhase) × IsSamePhase p.system (storage_of p) found
    × IsShownIn clock (same_phase_said p.system.flat (length p.system.pairs) found) text)

-- the name of the port of a listed output, by its number from 1 on
abbrev pub output_name : List Listed → ℕ → List ℕ
output_name outputs number = (slice_index_or outputs (number - 1) no_listed).port

-- the late outputs on a phase, by their numbers
abbrev pub late_on : Parts → ℕ → List ℕ
late_on p phase = late_outputs p.system.flat (storage_of p) p.clock.outputs phase

-- what is said of late outputs on a phase, of which this is the first
abbrev pub late_of : Parts → ℕ → ℕ → Said
late_of p phase first =
    late_said (output_name p.clock.outputs first) (length (late_on p phase)) (phase_name p.system.flat phase) []

-- what is written of a phase: the warning of late outputs on it, and nothing where there are none
abbrev pub IsOfPhase : File → Parts → ℕ → List ℕ → Type 0
IsOfPhase clock p phase text = ((late_on p phase ≡ []) × (text ≡ []))
    ⊎ ((first : ℕ) × (later : List ℕ) × (late_on p phase ≡ first ∷ later)
    × IsShownIn clock (late_of p phase first) text)

-- the same of all phases, one behind the other
abbrev pub IsOfPhases : File → Parts → List ℕ → Type 0
IsOfPhases clock p text = (texts : List (List ℕ)) × AllZip (IsOfPhase clock p) (phases_of p.system.flat) texts
    × (text ≡ concat texts)

-- the paths that begin at a cell of the clock
abbrev pub paths_from : List DataPath → ℕ → List DataPath
paths_from paths cell = filter (λ path. path.cell == cell) paths

-- what is written of a cell: the warning of the paths from it, with the names of one of them, and nothing where there
-- are none
abbrev pub IsOfCell : File → Parts → List DataPath → ℕ → List ℕ → Type 0
IsOfCell file p paths cell text = ((paths_from paths cell ≡ []) × (text ≡ []))
    ⊎ ((first : DataPath) × (later : List DataPath) × (paths_from paths cell ≡ first ∷ later)
    × ((net : List ℕ) × (pin : List ℕ) × (instance : List ℕ)
    × IsShownIn file (data_said (name_at p.cells cell) (length (paths_from paths cell)) net pin instance) text))

-- the same of all cells, one behind the other
abbrev pub IsOfCells : File → Parts → List ℕ → Type 0
IsOfCells file p text = (paths : List DataPath) × AreDataPaths p.hierarchy p.cells paths
    × ((texts : List (List ℕ)) × AllZip (IsOfCell file p paths) (range_with_len 0 (length p.cells)) texts
    × (text ≡ concat texts))

-- what is written of ports of the top: the warning of those that no phase and no list names, and nothing where there
-- are none
abbrev pub IsOfPorts : File → Parts → List ℕ → Type 0
IsOfPorts netlist p text = ((unlisted p.hierarchy.ports p.clock ≡ []) × (text ≡ []))
    ⊎ ((found : Unlisted) × IsUnlisted p.hierarchy.ports p.clock found
    × IsShownIn netlist (ports_said found) text)

-- The warnings of the files of a design: of pairs of latches, of phases, of cells, and of ports.
pub record AreWarnings (most : Most) (files : Files) (text : List ℕ) : Type 0 where
  pub parts : Parts
  pub are_parts : AreParts most files parts
  pub same : List ℕ
  pub late : List ℕ
  pub entered : List ℕ
  pub unlisted : List ℕ
  pub is_same : IsOfPairs files.clock parts same
  pub is_late : IsOfPhases files.clock parts late
  pub is_entered : IsOfCells files.cells parts entered
  pub is_unlisted : IsOfPorts files.netlist parts unlisted
  pub whole : text ≡ same ++ late ++ entered ++ unlisted
