-- What holds of designs with edges kept apart.
use Rattle.std.specs.Prelude.{◌≡◌, ◌⊎◌, ℕ, ℤ, ◌*ℤ◌, ◌≤ℤ◌, Bool, true, false, ◌||◌, List}
use Rattle.mintc_text.specs.declared.limits.Most.{Most}
use Rattle.mintc_text.specs.declared.refusals.Refusal.{Refusal}
use Rattle.mintc_flatten_hierarchy.specs.declared.hierarchy.Hierarchy.{Hierarchy}
use Rattle.mintc_flatten_hierarchy.specs.Shape.{CellTable}
use Rattle.mintc_clock.specs.declared.clock.Clock.{Clock}
use Rattle.mintc_sdf_edges.specs.declared.delays.EdgeDelay.{EdgeDelay}
use Rattle.mintc_senses_expressions.specs.Transitions.{has}
use Rattle.mintc_timing.specs.declared.clocking.Schedule.{Schedule}
use Rattle.mintc_timing.specs.Design.{Design, Timing}
use Rattle.mintc_timing.specs.Clocking.{feeds_of}
use Rattle.mintc_timing.specs.Limits.{IsDesign}
use Rattle.mintc_timing.specs.Order.{IsTiming}
use Rattle.mintc_timing.specs.Paths.{ArePairs}
use Rattle.mintc_timing.specs.Right.{IsRight, IsLeastCycle, IsHopeless}
use Rattle.mintc_annotate_resolve.specs.Resolution.{Target}
use Rattle.mintc_annotate.specs.Made.{design_made}
use Rattle.mintc_annotate.specs.Phases.{phase_spots, AreTraced}
use Rattle.mintc_departure.specs.Laws.{IsPass}
use Rattle.mintc_edges_cover.specs.Cover.{IsCover}
use Rattle.mintc_edges.specs.declared.edge.Edge.{Edge}
use Rattle.mintc_edges.specs.declared.edge.Transition.{Transition}
use Rattle.mintc_edges.specs.Numbers.{SenseOf, without_edges, merged_range, wire_range, gate_range, element_range}
use Rattle.mintc_edges.specs.Apart.{design_apart, IsEdgeDesign, IsEdgeRefusal}

-- The merged design and the one with edges apart, made of one hierarchy with its cells, senses, clock and delays, and
-- of the phases of its latches and flops.
pub record AreBoth (h : Hierarchy) (cells : CellTable) (sense : SenseOf) (clock : Clock) (ds : List EdgeDelay)
    (merged apart : Design) : Type 0 where
  pub phases : List ℕ
  pub traced : AreTraced h cells (phase_spots h clock) phases
  pub is_merged : merged ≡ design_made h cells clock (without_edges ds) phases
  pub is_apart : apart ≡ design_apart h cells sense clock ds phases

-- The merged design covers the other: each of its arcs, elements and numbers reaches as far.
abbrev pub EdgeDesignsAreCovered : Type 0
EdgeDesignsAreCovered = (h : Hierarchy) (cells : CellTable) (sense : SenseOf) (clock : Clock) (ds : List EdgeDelay)
    (merged apart : Design) → AreBoth h cells sense clock ds merged apart → IsCover merged apart

-- Both as timings, each with its pairs.
pub record AreTimings (h : Hierarchy) (cells : CellTable) (sense : SenseOf) (clock : Clock) (ds : List EdgeDelay)
    (merged t : Timing) : Type 0 where
  pub both : AreBoth h cells sense clock ds merged.flat t.flat
  pub wider : ArePairs merged.flat merged.pairs
  pub pairs : ArePairs t.flat t.pairs

-- A schedule that is right with edges merged is right with edges apart.
abbrev pub EdgeSchedulesAreKept : Type 0
EdgeSchedulesAreKept = (h : Hierarchy) (cells : CellTable) (sense : SenseOf) (clock : Clock) (ds : List EdgeDelay)
    (merged t : Timing) → AreTimings h cells sense clock ds merged t → (s : Schedule) (d : List ℤ) →
    IsRight merged s d → (own : List ℤ) × IsRight t s own

-- Each sense has a transition to each edge.
abbrev pub EndsAtEachEdge : SenseOf → Type 0
EndsAtEachEdge sense = (cell input output : ℕ) (o : Bool) →
    (has (sense cell input output) true o || has (sense cell input output) false o) ≡ true

-- And one that passes with edges merged, holds included, passes with edges apart, where each sense has a transition to
-- each edge. Else data may reach an element at one edge alone, and at the other it then departs when it opens.
abbrev pub EdgePassesAreKept : Type 0
EdgePassesAreKept = (h : Hierarchy) (cells : CellTable) (sense : SenseOf) (clock : Clock) (ds : List EdgeDelay)
    (merged t : Timing) → AreTimings h cells sense clock ds merged t → EndsAtEachEdge sense → IsDesign t.flat →
    IsTiming t.flat t.order t.pairs → (s : Schedule) → IsPass merged s → IsPass t s

-- So the least cycle with edges apart is at most that with edges merged,
abbrev pub EdgeCyclesAreNoGreater : Type 0
EdgeCyclesAreNoGreater = (h : Hierarchy) (cells : CellTable) (sense : SenseOf) (clock : Clock) (ds : List EdgeDelay)
    (merged t : Timing) → AreTimings h cells sense clock ds merged t → (num den own_num own_den : ℤ) →
    IsLeastCycle merged num den → IsLeastCycle t own_num own_den → (own_num *ℤ den) ≤ℤ (num *ℤ own_den)

-- and no schedule is right with edges apart only where none is with edges merged.
abbrev pub EdgesAreHopelessOnlyWhere : Type 0
EdgesAreHopelessOnlyWhere = (h : Hierarchy) (cells : CellTable) (sense : SenseOf) (clock : Clock) (ds : List EdgeDelay)
    (merged t : Timing) → AreTimings h cells sense clock ds merged t → IsHopeless t → IsHopeless merged

-- A phase feeds another with edges apart only where it does with edges merged.
abbrev pub EdgesFeedOnlyWhere : Type 0
EdgesFeedOnlyWhere = (h : Hierarchy) (cells : CellTable) (sense : SenseOf) (clock : Clock) (ds : List EdgeDelay)
    (merged t : Timing) → AreTimings h cells sense clock ds merged t → (i j : ℕ) → feeds_of t i j ≡ true →
    feeds_of merged i j ≡ true

-- Each sense has a transition from each edge.
abbrev pub StartsAtEachEdge : SenseOf → Type 0
StartsAtEachEdge sense = (cell input output : ℕ) (i : Bool) →
    (has (sense cell input output) i true || has (sense cell input output) i false) ≡ true

-- What delays say is the same at both edges.
pub record AreAlike (h : Hierarchy) (cells : CellTable) (sense : SenseOf) (ds : List EdgeDelay) : Type 0 where
  pub wires : (e : Edge) (m : Target) → wire_range h cells ds e m ≡ merged_range h cells ds m
  pub gates : (t : Transition) (m : Target) → gate_range h cells ds t m ≡ merged_range h cells ds m
  pub elements : (e : Edge) (m : Target) → element_range h cells sense ds e m ≡ merged_range h cells ds m

-- Where each sense has a transition from each edge, and delays say the same at both edges, the least cycle is the same.
abbrev pub NothingElseChanges : Type 0
NothingElseChanges = (h : Hierarchy) (cells : CellTable) (sense : SenseOf) (clock : Clock) (ds : List EdgeDelay)
    (merged t : Timing) → AreTimings h cells sense clock ds merged t → StartsAtEachEdge sense →
    AreAlike h cells sense ds → (num den : ℤ) → IsLeastCycle merged num den → IsLeastCycle t num den

-- ---- one answer for each hierarchy

-- There is one design at most,
abbrev pub EdgeDesignsAreDetermined : Type 0
EdgeDesignsAreDetermined = (most : Most) (h : Hierarchy) (cells : CellTable) (sense : SenseOf) (clock : Clock)
    (ds : List EdgeDelay) (design other : Design) → IsEdgeDesign most h cells sense clock ds design →
    IsEdgeDesign most h cells sense clock ds other → design ≡ other

-- none beside a refusal,
abbrev pub EdgeDesignsAreNotRefused : Type 0
EdgeDesignsAreNotRefused = (most : Most) (h : Hierarchy) (cells : CellTable) (sense : SenseOf) (clock : Clock)
    (ds : List EdgeDelay) (design : Design) (refused : Refusal) → IsEdgeDesign most h cells sense clock ds design →
    IsEdgeRefusal most h cells sense clock ds refused → ⊥

-- one refusal at most,
abbrev pub EdgeRefusalsAreDetermined : Type 0
EdgeRefusalsAreDetermined = (most : Most) (h : Hierarchy) (cells : CellTable) (sense : SenseOf) (clock : Clock)
    (ds : List EdgeDelay) (refused other : Refusal) → IsEdgeRefusal most h cells sense clock ds refused →
    IsEdgeRefusal most h cells sense clock ds other → refused ≡ other

-- and always the one or the other.
abbrev pub HaveEdgeDesignOrRefusal : Type 0
HaveEdgeDesignOrRefusal = (most : Most) (h : Hierarchy) (cells : CellTable) (sense : SenseOf) (clock : Clock)
    (ds : List EdgeDelay) → ((design : Design) × IsEdgeDesign most h cells sense clock ds design)
    ⊎ ((refused : Refusal) × IsEdgeRefusal most h cells sense clock ds refused)
