-- The design of a netlist, delays, cells and a clock, or their first refusal.
use Rattle.std.specs.Prelude.{◌≡◌, ℕ, List, Ok, Err}
use Rattle.mintc_text.specs.declared.limits.Most.{Most}
use Rattle.mintc_text.specs.declared.refusals.Refusal.{Refusal}
use Rattle.mintc_text.specs.declared.refusals.Refusal.TheVariants as refusal
use Rattle.mintc_text.specs.declared.refusals.Role.TheVariants as role
use Rattle.mintc_timing.specs.Design.{Design}
use Rattle.mintc_netlist.specs.declared.module.Netlist.{Netlist}
use Rattle.mintc_verilog.specs.Netlists.{IsNetlist, IsFault}
use Rattle.mintc_sdf.specs.declared.delays.Delay.{Delay}
use Rattle.mintc_sdf.specs.Texts.{delays_of}
use Rattle.mintc_cells.specs.CellsOf.{AreCells, IsBadCell, IsBadCellBy}
use Rattle.mintc_liberty.specs.Meaning.{liberty_cells}
use Rattle.mintc_clock.specs.declared.clock.Clock.{Clock}
use Rattle.mintc_clock.specs.ClockOf.{IsClock, IsClockRefusal}
use Rattle.mintc_flatten_hierarchy.specs.declared.hierarchy.Hierarchy.{Hierarchy}
use Rattle.mintc_flatten_hierarchy.specs.Sources.{source_of}
use Rattle.mintc_flatten_hierarchy.specs.Refusals.{IsHierarchy, IsRefusal}
use Rattle.mintc_flatten_hierarchy.specs.Shape.{CellTable}
use Rattle.mintc_annotate.specs.Made.{IsAnnotated, IsAnnotateRefusal}
use Rattle.mintc_build.specs.declared.files.CellFile.{CellFile}
use Rattle.mintc_build.specs.declared.files.CellFile.TheVariants.{Description, Library}

-- What the cells are read from: a description, or a Liberty library. A text of theirs describes cells, or gives a
-- refusal.
pub record CellText : Type 1 where
  pub Describes : CellTable → Type 0
  pub Refuses : Refusal → Type 0

-- the cells of a description
abbrev pub described_by : List ℕ → CellText
described_by text = record { Describes = AreCells text; Refuses = IsBadCellBy (IsBadCell text) }

-- the Syntax of a library, with its first statement out of form
abbrev pub IsLibraryRefusal : List ℕ → Refusal → Type 0
IsLibraryRefusal text refused = (n : ℕ) × (liberty_cells text ≡ Err n) × (refused ≡ refusal.Syntax role.Cells n)

-- the cells of a library
abbrev pub library_by : List ℕ → CellText
library_by text = record { Describes = λ cells. liberty_cells text ≡ Ok cells; Refuses = IsLibraryRefusal text }

-- the bytes of the file that cells are read from
abbrev pub file_bytes : CellFile → List ℕ
file_bytes (Description text) = text.now
file_bytes (Library text) = text.now

-- what the file says that cells are read from
abbrev pub cell_text : CellFile → CellText
cell_text (Description text) = described_by text.now
cell_text (Library text) = library_by text.now

-- the refusal of a netlist's text, with its first statement at fault
abbrev pub IsNetlistRefusal : List ℕ → Refusal → Type 0
IsNetlistRefusal text refused = (n : ℕ) × (refused ≡ refusal.Syntax role.Netlist n) × IsFault text n

-- All four texts are in form, and these are what they give.
pub record AreRead (v d : List ℕ) (c : CellText) (k : List ℕ) (netlist : Netlist) (delays : List Delay)
    (cells : CellTable) (clock : Clock) : Type 0 where
  pub netlist_read : IsNetlist v netlist
  pub delays_read : delays_of d ≡ Ok delays
  pub cells_read : c.Describes cells
  pub clock_read : IsClock k clock

-- the hierarchy of a netlist with these cells, from the top that the clock's description names, and its refusal
abbrev pub IsHierarchyOf : Most → Netlist → CellTable → Clock → Hierarchy → Type 0
IsHierarchyOf most netlist cells clock h = IsHierarchy most (source_of cells netlist.modules) clock.top h

-- the refusal of such a hierarchy
abbrev pub IsHierarchyRefusal : Most → Netlist → CellTable → Clock → Refusal → Type 0
IsHierarchyRefusal most netlist cells clock refused = IsRefusal most (source_of cells netlist.modules) clock.top refused

-- The design of texts whose cells are those of a text of either form.
pub record IsDesignOver (most : Most) (v d : List ℕ) (c : CellText) (k : List ℕ) (design : Design) : Type 0 where
  pub netlist : Netlist
  pub delays : List Delay
  pub cells : CellTable
  pub clock : Clock
  pub hierarchy : Hierarchy
  pub read : AreRead v d c k netlist delays cells clock
  pub flat : IsHierarchyOf most netlist cells clock hierarchy
  pub annotated : IsAnnotated most hierarchy cells clock delays design

-- Their first refusal, in the order of a run: of each text after those before it, then of the hierarchy, then of
-- the rest.
pub data IsRefusalOver (most : Most) (v d : List ℕ) (c : CellText) (k : List ℕ) (refused : Refusal) : Type 0 where
  of_netlist : IsNetlistRefusal v refused → IsRefusalOver most v d c k refused
  of_delays : (netlist : Netlist) → IsNetlist v netlist → delays_of d ≡ Err refused → IsRefusalOver most v d c k refused
  of_cells : (netlist : Netlist) (delays : List Delay) → IsNetlist v netlist → delays_of d ≡ Ok delays →
      c.Refuses refused → IsRefusalOver most v d c k refused
  of_clock : (netlist : Netlist) (delays : List Delay) (cells : CellTable) → IsNetlist v netlist →
      delays_of d ≡ Ok delays → c.Describes cells → IsClockRefusal k refused → IsRefusalOver most v d c k refused
  of_hierarchy : (netlist : Netlist) (delays : List Delay) (cells : CellTable) (clock : Clock) →
      AreRead v d c k netlist delays cells clock → IsHierarchyRefusal most netlist cells clock refused →
      IsRefusalOver most v d c k refused
  of_design : (netlist : Netlist) (delays : List Delay) (cells : CellTable) (clock : Clock) (hierarchy : Hierarchy) →
      AreRead v d c k netlist delays cells clock →
      IsHierarchyOf most netlist cells clock hierarchy → IsAnnotateRefusal most hierarchy cells clock delays refused →
      IsRefusalOver most v d c k refused

-- The design of a netlist, delays, a cell description and a clock; and their first refusal.
abbrev pub IsFilesDesign : Most → List ℕ → List ℕ → List ℕ → List ℕ → Design → Type 0
IsFilesDesign most v d c k design = IsDesignOver most v d (described_by c) k design

-- the first refusal of a netlist, delays, a cell description and a clock
abbrev pub IsFilesRefusal : Most → List ℕ → List ℕ → List ℕ → List ℕ → Refusal → Type 0
IsFilesRefusal most v d c k refused = IsRefusalOver most v d (described_by c) k refused

-- The same with the cells of a Liberty library.
abbrev pub IsLibertyDesign : Most → List ℕ → List ℕ → List ℕ → List ℕ → Design → Type 0
IsLibertyDesign most v d l k design = IsDesignOver most v d (library_by l) k design

-- the same with the cells of a Liberty library
abbrev pub IsLibertyRefusal : Most → List ℕ → List ℕ → List ℕ → List ℕ → Refusal → Type 0
IsLibertyRefusal most v d l k refused = IsRefusalOver most v d (library_by l) k refused
