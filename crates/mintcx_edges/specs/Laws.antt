-- What holds of the designs with edges apart of four texts.
use Rattle.std.specs.Prelude.{◌≡◌, ℕ, ℤ, ◌*ℤ◌, ◌≤ℤ◌, List}
use Rattle.mintc_text.specs.declared.limits.Most.{Most}
use Rattle.mintc_text.specs.declared.refusals.Refusal.{Refusal}
use Rattle.mintc_timing.specs.declared.clocking.Schedule.{Schedule}
use Rattle.mintc_timing.specs.Design.{Design, Timing}
use Rattle.mintc_timing.specs.Paths.{ArePairs}
use Rattle.mintc_timing.specs.Right.{IsRight, IsLeastCycle}
use Rattle.mintc_senses_expressions.specs.Transitions.{all_transitions}
use Rattle.mintc_flatten_hierarchy.specs.Shape.{CellTable}
use Rattle.mintc_edges.specs.Numbers.{sense_of}
use Rattle.mintc_build.specs.FilesDesign.{CellText, IsDesignOver}
use Rattle.mintcx_sense_keys.specs.Laws.{IsKeyless}
use Rattle.mintcx_edges.specs.declared.halt.Halt.{Halt}
use Rattle.mintcx_edges.specs.declared.halt.Halt.TheVariants as halt
use Rattle.mintcx_edges.specs.EdgeFiles.{SensedText, description, library_with, cells_with, IsEdgeDesignOver}
use Rattle.mintcx_edges.specs.EdgeFiles.{IsEdgeRefusalOver, IsEdgeLibertyDesign}
use Rattle.mintcx_edges.specs.Halts.{IsEdgeHalt}

-- Of cells that are described without the keys of senses each edge of an input may make both edges of an output.
abbrev pub DescribedEdgesMakeBoth : Type 0
DescribedEdgesMakeBoth = (text : List ℕ) (cells : CellTable) (cell input output : ℕ) → IsKeyless text →
    sense_of ((description text).senses cells) cells cell input output ≡ all_transitions

-- Texts whose cells are read in one form have one design with edges apart or one refusal at most, and never both.
pub record AreEdgePlain (by : List ℕ → SensedText) : Type 0 where
  pub one_design : (most : Most) (v d c k : List ℕ) (design other : Design) →
      IsEdgeDesignOver most v d (by c) k design → IsEdgeDesignOver most v d (by c) k other → design ≡ other
  pub no_refusal : (most : Most) (v d c k : List ℕ) (design : Design) (refused : Refusal) →
      IsEdgeDesignOver most v d (by c) k design → IsEdgeRefusalOver most v d (by c) k refused → ⊥
  pub one_refusal : (most : Most) (v d c k : List ℕ) (refused other : Refusal) →
      IsEdgeRefusalOver most v d (by c) k refused → IsEdgeRefusalOver most v d (by c) k other → refused ≡ other

-- so it is of a library with gates for the clock, whichever they are
abbrev pub LibrariesArePlain : Type 0
LibrariesArePlain = (gates : List (List ℕ)) → AreEdgePlain (library_with gates)

-- Where four texts have a design, all gates are fit too: what else is told is that memory was wanting.
abbrev pub LibrariesAreNotHalted : Type 0
LibrariesAreNotHalted = (most : Most) (v d l : List ℕ) (gates : List (List ℕ)) (k : List ℕ) (design : Design)
    (why : Halt) → IsEdgeLibertyDesign most v d l gates k design → IsEdgeHalt most v d l gates k why →
    why ≡ halt.OutOfMemory

-- Four texts have a merged design, whose cells are read in one form, and one with edges apart, whose cells are read in
-- another; both as timings, each with its pairs.
pub record AreTimingsOf (most : Most) (v d : List ℕ) (c : CellText) (s : SensedText) (k : List ℕ)
    (merged apart : Timing) : Type 0 where
  pub is_merged : IsDesignOver most v d c k merged.flat
  pub is_apart : IsEdgeDesignOver most v d s k apart.flat
  pub wider : ArePairs merged.flat merged.pairs
  pub pairs : ArePairs apart.flat apart.pairs

-- A schedule that is right for the merged design of four texts is right for the one with edges apart.
abbrev pub SchedulesAreKept : (List ℕ → CellText) → (List ℕ → SensedText) → Type 0
SchedulesAreKept by with_senses = (most : Most) (v d c k : List ℕ) (merged apart : Timing) →
    AreTimingsOf most v d (by c) (with_senses c) k merged apart → (s : Schedule) (departures : List ℤ) →
    IsRight merged s departures → (own : List ℤ) × IsRight apart s own

-- So the least cycle with edges apart is at most that of the merged design.
abbrev pub CyclesAreNoGreater : (List ℕ → CellText) → (List ℕ → SensedText) → Type 0
CyclesAreNoGreater by with_senses = (most : Most) (v d c k : List ℕ) (merged apart : Timing) →
    AreTimingsOf most v d (by c) (with_senses c) k merged apart → (num den own_num own_den : ℤ) →
    IsLeastCycle merged num den → IsLeastCycle apart own_num own_den → (own_num *ℤ den) ≤ℤ (num *ℤ own_den)

-- so it is of the designs of a library with gates for the clock, whichever they are
abbrev pub GatedSchedulesAreKept : Type 0
GatedSchedulesAreKept = (gates : List (List ℕ)) → SchedulesAreKept (cells_with gates) (library_with gates)

-- and of their least cycles
abbrev pub GatedCyclesAreNoGreater : Type 0
GatedCyclesAreNoGreater = (gates : List (List ℕ)) → CyclesAreNoGreater (cells_with gates) (library_with gates)
