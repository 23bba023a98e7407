-- That the designs of files have their parts in their ranges.
use Rattle.std.specs.Prelude.{◌≤◌, ℕ, List, length}
use Rattle.mintc_text.specs.Limits.{AreLimits}
use Rattle.mintc_text.specs.declared.limits.Most.{Most}
use Rattle.mintc_text.specs.declared.limits.TheConstants.{MOST_BYTES}
use Rattle.mintc_timing.specs.Design.{Design}
use Rattle.mintc_timing.specs.Limits.{HasParts}
use Rattle.mintc_build.specs.FilesDesign.{CellText, IsDesignOver}

-- In a run a design of texts whose cells are read in one form, the netlist no longer than files may be, has its parts
-- in their ranges.
abbrev pub DesignsAreSound : (List ℕ → CellText) → Type 0
DesignsAreSound by = (most : Most) (v d c k : List ℕ) (design : Design) → AreLimits most → length v ≤ MOST_BYTES →
    IsDesignOver most v d (by c) k design → HasParts design
