-- The phase of a latch or flop: where the search back from its enable or clock pin ends.
use Rattle.std.specs.Prelude.{◌≡◌, ◌+◌, ◌==◌, ℕ, zero, suc, Bool, false, not, ◌&&◌, if◌then◌else◌, List, [], ◌∷◌, ◌++◌}
use Rattle.std.specs.Prelude.{map, length, filter, find, flat_map, Option, Some, None, unwrap_or}
use Rattle.std.specs.Bool.{beq}
use Rattle.std.specs.List.{AllZip}
use Rattle.mintc_text.specs.declared.refusals.Refusal.{Refusal}
use Rattle.mintc_text.specs.declared.refusals.Refusal.TheVariants as refusal
use Rattle.mintc_cells.specs.declared.cell.Cell.{Cell}
use Rattle.mintc_annotate.specs.declared.searching.Drive.{Drive}
use Rattle.mintc_annotate.specs.declared.searching.Spot.{Spot}
use Rattle.mintc_cells.specs.declared.cell.Cell.TheVariants.{Latch, Flop, Clock}
use Rattle.mintc_flatten_hierarchy.specs.declared.hierarchy.Hierarchy.{Hierarchy}
use Rattle.mintc_flatten_hierarchy.specs.declared.hierarchy.Join.{Join}
use Rattle.mintc_flatten_hierarchy.specs.declared.hierarchy.TopPort.{TopPort}
use Rattle.mintc_clock.specs.declared.clock.Clock as clock_type
use Rattle.mintc_clock.specs.declared.clock.PhaseDef.{PhaseDef}
use Rattle.mintc_flatten_hierarchy.specs.Shape.{CellTable}
use Rattle.mintc_annotate_resolve.specs.Pins.{is_storage, leaf_cell, all_leaves, pin_bit, all_names}
use Rattle.mintc_annotate_resolve.specs.Ports.{if_input, place_in}
use Rattle.mintc_annotate.specs.ClockPorts.{has_phases, first_false, IsPortRefusal}

-- the leaves that are latches or flops, in leaf order: element e is that of leaf number e of these
abbrev pub storage : Hierarchy → CellTable → List ℕ
storage h cells = filter (λ l. is_storage (leaf_cell h cells l)) (all_leaves h)

-- ---- what drives a bit: the join that ends there; or, at the output of a clock cell, the cell's input, and the level
-- turns where the cell inverts. The input is the first pin of such a cell and the output the last.

-- what drives a bit, by its parts
abbrev pub drive : ℕ → ℕ → Bool → Drive
drive to from inverts = record { to = to; from = from; inverts = inverts }

-- what a join drives
abbrev pub join_drive : Join → Drive
join_drive j = drive j.to j.from false

-- what leaf l drives, which is of this cell
abbrev pub cell_drives : Hierarchy → ℕ → Cell → List Drive
cell_drives h l (Clock input output invert ignored) = drive (pin_bit h l (length ignored + 1)) (pin_bit h l 0) invert ∷
    []
cell_drives h l _ = []

-- all that drives a bit
abbrev pub drives : Hierarchy → CellTable → List Drive
drives h cells = map join_drive h.joins ++ flat_map (λ l. cell_drives h l (leaf_cell h cells l)) (all_leaves h)

-- the first that drives a bit; a hierarchy has one at most
abbrev pub driver_of : List Drive → ℕ → Option Drive
driver_of ds b = find (λ d. d.to == b) ds

-- ---- the search: at each bit a level is looked for there

-- a bit with the level that is looked for there
abbrev pub spot : ℕ → Bool → Spot
spot bit high = record { bit = bit; high = high }

-- a level, turned where a cell inverts
abbrev pub turned : Bool → Bool → Bool
turned invert high = if invert then not high else high

-- where the search goes on from a spot that is driven so
abbrev pub back : Drive → Spot → Spot
back d s = spot d.from (turned d.inverts s.high)

-- The search from a spot ends at another after so many steps back: nothing drives that. A search that goes round
-- ends nowhere.
abbrev pub EndsAt : List Drive → ℕ → Spot → Spot → Type 0
EndsAt ds zero s end = (driver_of ds s.bit ≡ None) × (s ≡ end)
EndsAt ds (suc n) s end = (d : Drive) × (driver_of ds s.bit ≡ Some d) × EndsAt ds n (back d s) end

-- the search starts at the enable or clock pin, which is pin 1, with the level of the latch or the edge of the flop
abbrev pub IsStart : Hierarchy → ℕ → Cell → Spot → Type 0
IsStart h l (Latch pin_d pin_g high outputs ignored setup hold has_hold dq_min dq_max cq_min cq_max has_cq width) s = s
    ≡ spot (pin_bit h l 1) high
IsStart h l (Flop pin_d pin_clock rising outputs ignored setup hold has_hold cq_min cq_max width) s = s
    ≡ spot (pin_bit h l 1) rising
IsStart h l _ s = ⊥

-- ---- phases, each at a bit of an input of the top, with a level; one without its port stands at no bit

-- where phases stand
abbrev pub spots_of : List (List ℕ) → List TopPort → List PhaseDef → List Spot
spots_of names ports phases = map (λ p. spot (unwrap_or (if_input (place_in names ports p.port)) (length names)) p.high)
    phases

-- where the phases of a clock stand
abbrev pub phase_spots : Hierarchy → clock_type.Clock → List Spot
phase_spots h clock = spots_of (all_names h) h.ports clock.phases

-- whether two spots are one
abbrev pub same_spot : Spot → Spot → Bool
same_spot s t = (s.bit == t.bit) && beq s.high t.high

-- the number of the first phase at a spot, counted on from n
abbrev pub first_at : ℕ → List Spot → Spot → Option ℕ
first_at n [] s = None
first_at n (t ∷ ts) s = if same_spot t s then Some n else first_at (n + 1) ts s

-- The search from leaf l ends at a spot, and phase p is the first there.
pub record IsPhaseOf (h : Hierarchy) (cells : CellTable) (spots : List Spot) (l p : ℕ) : Type 0 where
  pub start : Spot
  pub steps : ℕ
  pub end : Spot
  pub starts : IsStart h l (leaf_cell h cells l) start
  pub ends : EndsAt (drives h cells) steps start end
  pub found : first_at 1 spots end ≡ Some p

-- the phases of the latches and flops, in leaf order
abbrev pub AreTraced : Hierarchy → CellTable → List Spot → List ℕ → Type 0
AreTraced h cells spots phases = AllZip (IsPhaseOf h cells spots) (storage h cells) phases

-- Element e is the first latch or flop without a phase: its search ends elsewhere, or goes round.
pub record IsFirstUntraced (h : Hierarchy) (cells : CellTable) (spots : List Spot) (e : ℕ) : Type 0 where
  pub before : List ℕ
  pub phases : List ℕ
  pub leaf : ℕ
  pub after : List ℕ
  pub whole : storage h cells ≡ before ++ leaf ∷ after
  pub traced : AllZip (IsPhaseOf h cells spots) before phases
  pub none : (p : ℕ) → IsPhaseOf h cells spots leaf p → ⊥
  pub count : e ≡ length before

-- NoPhase of that element
abbrev pub IsUntraced : Hierarchy → CellTable → List Spot → Refusal → Type 0
IsUntraced h cells spots (refusal.NoPhase e) = IsFirstUntraced h cells spots e
IsUntraced h cells spots _ = ⊥

-- What `trace_phases` gives and refuses: the ports of phases come first.
pub record AreTraces (h : Hierarchy) (cells : CellTable) (clock : clock_type.Clock) (phases : List ℕ) : Type 0 where
  pub ports : first_false (has_phases h clock) ≡ None
  pub traced : AreTraced h cells (phase_spots h clock) phases

-- the refusal of a port of a phase, or of the first latch or flop without a phase
abbrev pub IsTraceRefusal : Hierarchy → CellTable → clock_type.Clock → Refusal → Type 0
IsTraceRefusal h cells clock (refusal.NoPhase e) = (first_false (has_phases h clock) ≡ None)
    × IsFirstUntraced h cells (phase_spots h clock) e
IsTraceRefusal h cells clock refused = IsPortRefusal (has_phases h clock) refused
