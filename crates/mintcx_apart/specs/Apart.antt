-- The design with edges apart that four texts have, or why they have none; and its table.
use Rattle.std.specs.Prelude.{ℕ, Bool, true, false, List}
use Rattle.mintc_text.specs.declared.limits.Most.{Most}
use Rattle.mintc_timing.specs.Design.{Design}
use Rattle.mintc_command_answers.specs.Sources.{file_at}
use Rattle.mintcx_edges.specs.EdgeFiles.{IsEdgeFilesDesign, IsEdgeFilesRefusal, IsEdgeLibertyDesign}
use Rattle.mintcx_edges.specs.Halts.{IsEdgeHalt}
use Rattle.mintcx_edges.specs.declared.halt.Halt.{Halt}
use Rattle.mintcx_edges.specs.declared.halt.Halt.TheVariants as halt
use Rattle.mintcx_tables.specs.Obstacles.{IsObstacle}
use Rattle.mintcx_tables.specs.Tables.{IsTableOf}
use Rattle.mintcx_apart.specs.declared.apart.Apart.{Apart}
use Rattle.mintcx_apart.specs.declared.apart.Apart.TheVariants.{Said, Unsaid}

-- The design with edges apart of the first four texts: a netlist, delays, a library with gates for the clock or else a
-- description of cells, and a clock.
abbrev pub IsDesignApart : Most → Bool → List (List ℕ) → List (List ℕ) → Design → Type 0
IsDesignApart most true gates texts design = IsEdgeLibertyDesign most (file_at texts 0) (file_at texts 1)
    (file_at texts 2) gates (file_at texts 3) design
IsDesignApart most false gates texts design = IsEdgeFilesDesign most (file_at texts 0) (file_at texts 1)
    (file_at texts 2) (file_at texts 3) design

-- a description of cells is halted by a refusal of the four texts, or memory was wanting
abbrev pub IsFilesHalt : Most → List (List ℕ) → Halt → Type 0
IsFilesHalt most texts (halt.Refused refused) = IsEdgeFilesRefusal most (file_at texts 0) (file_at texts 1)
    (file_at texts 2) (file_at texts 3) refused
IsFilesHalt most texts halt.OutOfMemory = Unit {0}
IsFilesHalt most texts gate = ⊥

-- Why the first four texts have no design with edges apart: their first refusal, the first gate that isn't fit, or
-- memory was wanting.
abbrev pub IsHaltApart : Most → Bool → List (List ℕ) → List (List ℕ) → Halt → Type 0
IsHaltApart most true gates texts why = IsEdgeHalt most (file_at texts 0) (file_at texts 1) (file_at texts 2) gates
    (file_at texts 3) why
IsHaltApart most false gates texts why = IsFilesHalt most texts why

-- a design's table, or a name that no table can have
abbrev pub IsToldApart : Design → Apart → Type 0
IsToldApart d (Said text) = IsTableOf d text
IsToldApart d (Unsaid obstacle) = IsObstacle d obstacle
