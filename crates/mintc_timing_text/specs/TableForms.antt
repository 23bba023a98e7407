-- A table's text as a list of lines.
use Rattle.std.specs.Prelude.{◌≡◌, ◌≤◌, ℕ, List, [], ◌∷◌, ◌++◌, length, codes}
use Rattle.std.specs.List.{AllZip}
use Rattle.mintc_text.specs.declared.limits.TheConstants.{MOST_COUNT}
use Rattle.mintc_timing.specs.Design.{Design}
use Rattle.mintc_timing_text.specs.declared.table_lines.Version.{Version}
use Rattle.mintc_timing_text.specs.declared.table_lines.Version.TheVariants.{Latches, Flops, Openings}
use Rattle.mintc_timing_text.specs.Fields.{Spells, IsNameLine}
use Rattle.mintc_timing_text.specs.LineForms.{count_line}
use Rattle.mintc_timing_text.specs.TableText.{IsElementLine, IsArcLine, IsBoundLine, inner_names}

-- the number of a version, in the first line
abbrev pub version_number : Version → ℕ
version_number Latches = 1
version_number Flops = 2
version_number Openings = 3

-- how many parts of each kind a table may have, and has to
pub record HasCounts (d : Design) : Type 0 where
  pub some_phase : 1 ≤ length d.phases
  pub phases : length d.phases ≤ MOST_COUNT
  pub elements : length d.elements ≤ MOST_COUNT
  pub inner : length d.inner ≤ MOST_COUNT
  pub arcs : length d.arcs ≤ MOST_COUNT
  pub bounds : length d.bounds ≤ MOST_COUNT

-- The lines of a design's table: the version, and of each kind of part a count and a line for each; inner bits have
-- a count alone, and their names follow from it.
pub record AreTableLines (v : Version) (d : Design) (lines : List (List ℕ)) : Type 0 where
  pub counts : HasCounts d
  pub inner : d.inner ≡ inner_names (length d.inner)
  pub phases : List (List ℕ)
  pub elements : List (List ℕ)
  pub arcs : List (List ℕ)
  pub bounds : List (List ℕ)
  pub each_phase : AllZip (Spells (IsNameLine (codes "phase"))) d.phases phases
  pub each_element : AllZip (Spells (IsElementLine v (length d.phases))) d.elements elements
  pub each_arc : AllZip (Spells (IsArcLine (length d.elements) (length d.inner))) d.arcs arcs
  pub each_bound : AllZip (Spells (IsBoundLine (length d.phases))) d.bounds bounds
  pub whole : lines ≡ count_line (codes "table") (version_number v) ∷ count_line (codes "phases") (length d.phases) ∷
      phases ++ (count_line (codes "elements") (length d.elements) ∷ elements ++
      (count_line (codes "inner") (length d.inner) ∷ count_line (codes "arcs") (length d.arcs) ∷ arcs ++
      (count_line (codes "bounds") (length d.bounds) ∷ bounds ++ (codes "end" ∷ []))))
