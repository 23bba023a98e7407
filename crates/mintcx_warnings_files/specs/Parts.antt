-- What the files of a design say.
use Rattle.std.specs.Prelude.{◌≤◌, ℕ, List, length}
use Rattle.mintc_text.specs.declared.limits.Most.{Most}
use Rattle.mintc_text.specs.declared.limits.TheConstants.{MOST_BYTES}
use Rattle.mintc_netlist.specs.declared.module.Netlist.{Netlist}
use Rattle.mintc_netlist.specs.Ordinary.{IsOrdinary}
use Rattle.mintc_sdf.specs.declared.delays.Delay.{Delay}
use Rattle.mintc_annotate.specs.Made.{IsAnnotated}
use Rattle.mintc_timing.specs.Order.{IsTiming}
use Rattle.mintc_build.specs.FilesDesign.{AreRead, CellText, IsHierarchyOf, described_by, library_by}
use Rattle.mintcx_warnings_files.specs.declared.files.CellsForm.{CellsForm}
use Rattle.mintcx_warnings_files.specs.declared.files.CellsForm.TheVariants as form
use Rattle.mintcx_warnings_files.specs.declared.files.Files.{Files}
use Rattle.mintcx_warnings_files.specs.declared.parts.Parts.{Parts}

-- no file is longer than one may be
pub record AreShort (files : Files) : Type 0 where
  pub netlist : length files.netlist.text.now ≤ MOST_BYTES
  pub delays : length files.delays.text.now ≤ MOST_BYTES
  pub cells : length files.cells.text.now ≤ MOST_BYTES
  pub clock : length files.clock.text.now ≤ MOST_BYTES

-- what the file of the cells says: it is a library, or a description
abbrev pub cells_text : CellsForm → List ℕ → CellText
cells_text form.Library text = library_by text
cells_text described text = described_by text

abbrev pub cells_by : Files → CellText
cells_by files = cells_text files.form files.cells.text.now

-- These are the cells, the clock, the hierarchy and the system that the files give: its pairs are those that some path
-- joins, each once and in order.
pub record AreParts (most : Most) (files : Files) (parts : Parts) : Type 0 where
  pub netlist : Netlist
  pub delays : List Delay
  pub read : AreRead files.netlist.text.now files.delays.text.now (cells_by files) files.clock.text.now netlist delays
      parts.cells parts.clock
  pub ordinary : IsOrdinary netlist
  pub flat : IsHierarchyOf most netlist parts.cells parts.clock parts.hierarchy
  pub made : IsAnnotated most parts.hierarchy parts.cells parts.clock delays parts.system.flat
  pub timing : IsTiming parts.system.flat parts.system.order parts.system.pairs
