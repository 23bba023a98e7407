-- What is written of a cell.
use Rattle.std.proofs.Common.{◌≡◌, ◌≤◌, ℕ, List, [], ◌∷◌, length, sym, subst, arith, inr}
use Rattle.mintc_cells.specs.Entries.{name_at}
use Rattle.mintcx_lint_data.specs.declared.data.DataPath.{DataPath}
use Rattle.mintcx_warnings.specs.Data.{data_said}
use Rattle.mintcx_warnings_files.specs.declared.files.File.{File}
use Rattle.mintcx_warnings_files.specs.declared.parts.Parts.{Parts}
use Rattle.mintcx_warnings_files.specs.Written.{IsOfCell, IsShownIn, paths_from}

-- the warning of the paths from a cell, where there is one
pub of_cell : (file : File) (p : Parts) (all here again : List DataPath) (cell : ℕ) (text : List ℕ) → here ≡ paths_from all cell → again ≡ paths_from all cell → 1 ≤ length here →
    ((net : List ℕ) × (pin : List ℕ) × (instance : List ℕ) × IsShownIn file (data_said (name_at p.cells cell) (length again) net pin instance) text) → IsOfCell file p all cell text
of_cell file p all [] again cell text e f h k = absurd (omega arith)
of_cell file p all (first ∷ later) again cell text e f h k = inr (
  first,
  later,
  sym e,
  subst (λ (l : List DataPath). (net : List ℕ) × (pin : List ℕ) × (instance : List ℕ) × IsShownIn file (data_said (name_at p.cells cell) (length l) net pin instance) text) f k,
)
