-- The design with edges apart of a netlist, delays, cells with their senses and a clock, or their first refusal.
use Rattle.std.specs.Prelude.{◌≡◌, ℕ, List, Err}
use Rattle.mintc_text.specs.declared.limits.Most.{Most}
use Rattle.mintc_text.specs.declared.refusals.Refusal.{Refusal}
use Rattle.mintc_timing.specs.Design.{Design}
use Rattle.mintc_netlist.specs.declared.module.Netlist.{Netlist}
use Rattle.mintc_verilog.specs.Netlists.{IsNetlist}
use Rattle.mintc_sdf.specs.Texts.{delays_of}
use Rattle.mintc_sdf_edges.specs.declared.delays.EdgeDelay.{EdgeDelay}
use Rattle.mintc_sdf_edges.specs.Texts.{AreTold}
use Rattle.mintc_senses_expressions.specs.declared.transitions.Transitions.{Transitions}
use Rattle.mintc_clock.specs.declared.clock.Clock.{Clock}
use Rattle.mintc_clock.specs.ClockOf.{IsClock, IsClockRefusal}
use Rattle.mintc_flatten_hierarchy.specs.declared.hierarchy.Hierarchy.{Hierarchy}
use Rattle.mintc_flatten_hierarchy.specs.Shape.{CellTable}
use Rattle.mintc_cells.specs.CellsOf.{IsBadCellBy}
use Rattle.mintc_build.specs.FilesDesign.{CellText, IsLibraryRefusal, IsNetlistRefusal, IsHierarchyOf}
use Rattle.mintc_build.specs.FilesDesign.{IsHierarchyRefusal}
use Rattle.mintc_edges.specs.Numbers.{sense_of}
use Rattle.mintc_edges.specs.Apart.{IsEdgeDesign, IsEdgeRefusal}
use Rattle.mintcx_sense_keys.specs.SensedCells.{ArePlainCells, IsBadPlainCell, AreSensedCells, IsBadSensedCell}
use Rattle.mintcx_sense_keys.specs.SensedCells.{senses_of_text}
use Rattle.mintcx_clock_cells.specs.Clocks.{HasClockCells, senses_in}

-- What cells and their senses are read from: a text that describes cells, or gives a refusal, and says senses of the
-- cells that it describes. Where it says none of a pin, each edge may make both.
pub record SensedText : Type 1 where
  pub cells : CellText
  pub senses : CellTable → List (List (List Transitions))

-- the cells of a description without the keys of senses
abbrev pub described_without : List ℕ → CellText
described_without text = record { Describes = ArePlainCells text; Refuses = IsBadCellBy (IsBadPlainCell text) }

-- a description of cells, and the senses that its keys say
abbrev pub description : List ℕ → SensedText
description text = record {
  cells = record { Describes = AreSensedCells text; Refuses = IsBadCellBy (IsBadSensedCell text) };
  senses = senses_of_text text;
}

-- the cells of a Liberty library, with gates of these names for the clock
abbrev pub cells_with : List (List ℕ) → List ℕ → CellText
cells_with gates text = record { Describes = HasClockCells text gates; Refuses = IsLibraryRefusal text }

-- a Liberty library with gates of these names for the clock, and the senses that it says of its cells with these gates
abbrev pub library_with : List (List ℕ) → List ℕ → SensedText
library_with gates text = record { cells = cells_with gates text; senses = senses_in text }

-- All four texts are in form, and these are what they give, the delays by edge.
pub record AreReadApart (v d : List ℕ) (c : CellText) (k : List ℕ) (netlist : Netlist) (delays : List EdgeDelay)
    (cells : CellTable) (clock : Clock) : Type 0 where
  pub netlist_read : IsNetlist v netlist
  pub delays_read : AreTold d delays
  pub cells_read : c.Describes cells
  pub clock_read : IsClock k clock

-- The design with edges apart of texts whose cells and senses are those of a text of either form.
pub record IsEdgeDesignOver (most : Most) (v d : List ℕ) (c : SensedText) (k : List ℕ) (design : Design)
    : Type 0 where
  pub netlist : Netlist
  pub delays : List EdgeDelay
  pub cells : CellTable
  pub clock : Clock
  pub hierarchy : Hierarchy
  pub read : AreReadApart v d c.cells k netlist delays cells clock
  pub flat : IsHierarchyOf most netlist cells clock hierarchy
  pub apart : IsEdgeDesign most hierarchy cells (sense_of (c.senses cells) cells) clock delays design

-- Their first refusal, in the order of a run: of each text after those before it, then of the hierarchy, which are
-- those of the merged design too, then of the rest.
pub data IsEdgeRefusalOver (most : Most) (v d : List ℕ) (c : SensedText) (k : List ℕ) (refused : Refusal)
    : Type 0 where
  of_netlist : IsNetlistRefusal v refused → IsEdgeRefusalOver most v d c k refused
  of_delays : (netlist : Netlist) → IsNetlist v netlist → delays_of d ≡ Err refused →
      IsEdgeRefusalOver most v d c k refused
  of_cells : (netlist : Netlist) (delays : List EdgeDelay) → IsNetlist v netlist → AreTold d delays →
      c.cells.Refuses refused → IsEdgeRefusalOver most v d c k refused
  of_clock : (netlist : Netlist) (delays : List EdgeDelay) (cells : CellTable) → IsNetlist v netlist →
      AreTold d delays → c.cells.Describes cells → IsClockRefusal k refused → IsEdgeRefusalOver most v d c k refused
  of_hierarchy : (netlist : Netlist) (delays : List EdgeDelay) (cells : CellTable) (clock : Clock) →
      AreReadApart v d c.cells k netlist delays cells clock → IsHierarchyRefusal most netlist cells clock refused →
      IsEdgeRefusalOver most v d c k refused
  of_design : (netlist : Netlist) (delays : List EdgeDelay) (cells : CellTable) (clock : Clock)
      (hierarchy : Hierarchy) → AreReadApart v d c.cells k netlist delays cells clock →
      IsHierarchyOf most netlist cells clock hierarchy →
      IsEdgeRefusal most hierarchy cells (sense_of (c.senses cells) cells) clock delays refused →
      IsEdgeRefusalOver most v d c k refused

-- The design with edges apart of a netlist, delays, a cell description and a clock; and their first refusal.
abbrev pub IsEdgeFilesDesign : Most → List ℕ → List ℕ → List ℕ → List ℕ → Design → Type 0
IsEdgeFilesDesign most v d c k design = IsEdgeDesignOver most v d (description c) k design

-- the first refusal of a netlist, delays, a cell description and a clock
abbrev pub IsEdgeFilesRefusal : Most → List ℕ → List ℕ → List ℕ → List ℕ → Refusal → Type 0
IsEdgeFilesRefusal most v d c k refused = IsEdgeRefusalOver most v d (description c) k refused

-- The same with the cells of a Liberty library with gates for the clock.
abbrev pub IsEdgeLibertyDesign : Most → List ℕ → List ℕ → List ℕ → List (List ℕ) → List ℕ → Design → Type 0
IsEdgeLibertyDesign most v d l gates k design = IsEdgeDesignOver most v d (library_with gates l) k design

-- the same with the cells of a Liberty library with gates for the clock
abbrev pub IsEdgeLibertyRefusal : Most → List ℕ → List ℕ → List ℕ → List (List ℕ) → List ℕ → Refusal → Type 0
IsEdgeLibertyRefusal most v d l gates k refused = IsEdgeRefusalOver most v d (library_with gates l) k refused
