-- Where a storage element's clock comes from.
use Rattle.std.proofs.Common.{◌≡◌, ◌<◌, ◌≤◌, ◌+◌, ℕ, zero, suc, Bool, true, cond, List, [], ◌∷◌, ◌++◌, length, take, drop, filter, get_or, Option, Some, None, refl, sym, ap, ◌∙◌, subst, arith, zero-add, MatchOption, map, is_some, Result, Ok, Err, MatchResult}
use Rattle.std.proofs.lemmas.List.{take_all, drop_more, take-append-drop}
use Rattle.std.proofs.lemmas.List.Elements.{filter_more, filter-append}
use Rattle.std.proofs.lemmas.List.FromFn.{length-range_with_len, get_or-range_with_len}
use Rattle.std.proofs.lemmas.List.Sums.{count_by_more_yes}
use Rattle.mintc_annotate.specs.Made.{number_in}
use Rattle.mintc_flatten_hierarchy.specs.declared.hierarchy.Hierarchy.{Hierarchy}
use Rattle.mintc_annotate.specs.declared.searching.Drive.{Drive}
use Rattle.mintc_annotate.specs.declared.searching.Spot.{Spot}
use Rattle.mintc_annotate.specs.Phases.{storage, drives, driver_of, back, EndsAt, first_at, IsStart, IsPhaseOf, spots_of, phase_spots, AreTraced, IsUntraced, AreTraces, IsTraceRefusal}
use Rattle.mintc_annotate_resolve.specs.Pins.{is_storage, leaf_cell, all_leaves, all_names}
use Rattle.mintc_annotate_resolve.specs.Ports.{if_input, place_in}
use Rattle.mintc_annotate.specs.ClockPorts.{has_phases, first_false, IsPortRefusal}
use Rattle.mintc_text.specs.Stops.{StopsAt}
use Rattle.mintc_text.specs.declared.refusals.Stop.{Stop}
use Rattle.mintc_text.specs.declared.refusals.Stop.TheVariants as stop
use Rattle.mintc_text.specs.declared.refusals.Refusal.TheVariants as refusal
use Rattle.mintc_text.specs.declared.refusals.Role.TheVariants as role
use Rattle.mintc_cells.specs.declared.cell.Cell.{Cell}
use Rattle.mintc_cells.specs.declared.cell.Cell.TheVariants.{Latch, Flop}
use Rattle.mintc_clock.specs.declared.clock.Clock as clock_type
use Rattle.mintc_clock.specs.declared.clock.PhaseDef.{PhaseDef}
use Rattle.mintc_flatten_hierarchy.specs.declared.hierarchy.TopPort.{TopPort}
use Rattle.mintc_flatten_hierarchy.specs.Shape.{CellTable}
use Rattle.mintc_annotate.specs.Searches.{IsPhaseFrom}
use Rattle.mintc_annotate.proofs.SearchLaws.{one_driver, some_differs}

-- a search ends at one spot
pub one_end : (ds : List Drive) (n m : ℕ) (s e f : Spot) → EndsAt ds n s e → EndsAt ds m s f → e ≡ f
one_end ds zero zero s e f a b = sym a.1 ∙ b.1
one_end ds zero (suc m) s e f a b = absurd (some_differs (driver_of ds s.bit) b.0 a.0 b.1)
one_end ds (suc n) zero s e f a b = absurd (some_differs (driver_of ds s.bit) a.0 b.0 a.1)
one_end ds (suc n) (suc m) s e f a b =
    let same : a.0 ≡ b.0 = one_driver (driver_of ds s.bit) a.0 b.0 a.1 b.1 in
    one_end ds n m (back a.0 s) e f a.2 (subst (λ (d : Drive). EndsAt ds m (back d s) f) (sym same) b.2)

-- where the search ends, and no phase is there, it leads to none
pub no_phase : (ds : List Drive) (spots : List Spot) (n : ℕ) (start end : Spot) → EndsAt ds n start end → first_at 1 spots end ≡ None → (p : ℕ) → IsPhaseFrom ds spots start p → ⊥
no_phase ds spots n start end ends none p h =
    let found : first_at 1 spots end ≡ Some p = ap (first_at 1 spots) (one_end ds n h.steps start end h.end ends h.ends) ∙ h.found in
    absurd (cc)

abbrev pub stored : Hierarchy → CellTable → ℕ → Bool
stored h cells l = is_storage (leaf_cell h cells l)

pub leaf_number : (h : Hierarchy) (k : ℕ) → k < length h.leaves → get_or (all_leaves h) k 0 ≡ k
leaf_number h k within = get_or-range_with_len 0 (length h.leaves) k 0 within ∙ zero-add k

pub within_all : (h : Hierarchy) (k : ℕ) → k < length h.leaves → k < length (all_leaves h)
within_all h k within = omega (arith, within, length-range_with_len 0 (length h.leaves))

-- one more of them, where a leaf is one
pub number_yes : (h : Hierarchy) (cells : CellTable) (k : ℕ) → k < length h.leaves → is_storage (leaf_cell h cells k) ≡ true → number_in h cells (k + 1) ≡ number_in h cells k + 1
number_yes h cells k within is = count_by_more_yes (λ l. is_storage (leaf_cell h cells l)) (all_leaves h) k 0 (within_all h k within) (ap (λ (l : ℕ). is_storage (leaf_cell h cells l)) (leaf_number h k within) ∙ is)

-- the latches and flops up to a leaf, and one more leaf
pub stored_more : (h : Hierarchy) (cells : CellTable) (k : ℕ) (b : Bool) → k < length h.leaves → stored h cells k ≡ b →
    filter (stored h cells) (take (k + 1) (all_leaves h)) ≡ filter (stored h cells) (take k (all_leaves h)) ++ cond b (k ∷ []) []
stored_more h cells k b within is = rw (filter_more (stored h cells) (all_leaves h) k 0 (within_all h k within), leaf_number h k within, is) refl

-- all latches and flops, parted at one
pub stored_split : (h : Hierarchy) (cells : CellTable) (k : ℕ) → k < length h.leaves → stored h cells k ≡ true →
    storage h cells ≡ filter (stored h cells) (take k (all_leaves h)) ++ k ∷ filter (stored h cells) (drop (k + 1) (all_leaves h))
stored_split h cells k within is =
    ap (filter (stored h cells)) (sym (take-append-drop k (all_leaves h)) ∙ ap (λ l. take k (all_leaves h) ++ l) (drop_more (all_leaves h) k 0 (within_all h k within)))
    ∙ rw (filter-append (stored h cells) (take k (all_leaves h)) (get_or (all_leaves h) k 0 ∷ drop (k + 1) (all_leaves h)), leaf_number h k within, is) refl

pub stored_all : (h : Hierarchy) (cells : CellTable) (k : ℕ) → length h.leaves ≤ k → filter (stored h cells) (take k (all_leaves h)) ≡ storage h cells
stored_all h cells k past = ap (filter (stored h cells)) (take_all k (all_leaves h) (omega (arith, past, length-range_with_len 0 (length h.leaves))))

-- the phase of a spot at which a search ends
pub from_end : (ds : List Drive) (spots : List Spot) (n : ℕ) (start end : Spot) (r : Option ℕ) → EndsAt ds n start end → r ≡ first_at 1 spots end →
    MatchOption r ((p : ℕ) → IsPhaseFrom ds spots start p → ⊥) (IsPhaseFrom ds spots start)
from_end ds spots n start end None ends same = no_phase ds spots n start end ends (sym same)
from_end ds spots n start end (Some p) ends same = record { steps = n; end = end; ends = ends; found = sym same }

-- a search starts at one spot
pub one_start : (h : Hierarchy) (l : ℕ) (cell : Cell) (s t : Spot) → IsStart h l cell s → IsStart h l cell t → s ≡ t
one_start h l (Latch a b c d e f g i j k m n o p) s t x y = x ∙ sym y
one_start h l (Flop a b c d e f g i j k m) s t x y = x ∙ sym y
one_start h l _ s t x y = absurd x

-- a leaf whose search starts there has the phase to which that leads
pub phase_of_leaf : (h : Hierarchy) (cells : CellTable) (spots : List Spot) (l p : ℕ) (start : Spot) → IsStart h l (leaf_cell h cells l) start → IsPhaseFrom (drives h cells) spots start p → IsPhaseOf h cells spots l p
phase_of_leaf h cells spots l p start starts from = record { start = start; steps = from.steps; end = from.end; starts = starts; ends = from.ends; found = from.found }

pub none_of_leaf : (h : Hierarchy) (cells : CellTable) (spots : List Spot) (l : ℕ) (start : Spot) → IsStart h l (leaf_cell h cells l) start → ((p : ℕ) → IsPhaseFrom (drives h cells) spots start p → ⊥) → (p : ℕ) → IsPhaseOf h cells spots l p → ⊥
none_of_leaf h cells spots l start starts none p is =
    let same : is.start ≡ start = one_start h l (leaf_cell h cells l) is.start start is.starts starts in
    none p (record { steps = is.steps; end = is.end; ends = subst (λ (s : Spot). EndsAt (drives h cells) is.steps s is.end) same is.ends; found = is.found })

-- ---- what was traced over spots that are those of the phases
pub StopsAt-traced : (h : Hierarchy) (cells : CellTable) (clock : clock_type.Clock) (s : Stop) → first_false (has_phases h clock) ≡ None → StopsAt (IsUntraced h cells (phase_spots h clock)) s → StopsAt (IsTraceRefusal h cells clock) s
StopsAt-traced h cells clock (stop.Refused (refusal.NoPhase e)) ports untraced = (ports, untraced)
StopsAt-traced h cells clock (stop.Refused _) ports untraced = absurd untraced
StopsAt-traced h cells clock stop.OutOfMemory ports untraced = tt

pub traced_or_not : (h : Hierarchy) (cells : CellTable) (clock : clock_type.Clock) (r : Result (List ℕ) Stop) → first_false (has_phases h clock) ≡ None →
    MatchResult r (AreTraced h cells (phase_spots h clock)) (StopsAt (IsUntraced h cells (phase_spots h clock))) → MatchResult r (AreTraces h cells clock) (StopsAt (IsTraceRefusal h cells clock))
traced_or_not h cells clock (Ok phases) ports traced = record { ports = ports; traced = traced }
traced_or_not h cells clock (Err s) ports untraced = StopsAt-traced h cells clock s ports untraced

pub StopsAt-port : (h : Hierarchy) (cells : CellTable) (clock : clock_type.Clock) (s : Stop) → StopsAt (IsPortRefusal (has_phases h clock)) s → StopsAt (IsTraceRefusal h cells clock) s
StopsAt-port h cells clock (stop.Refused (refusal.NoPhase e)) none = absurd none
StopsAt-port h cells clock (stop.Refused (refusal.NoInstance role.Clock entry)) port = port
StopsAt-port h cells clock (stop.Refused _) none = absurd none
StopsAt-port h cells clock stop.OutOfMemory none = tt

-- which phases have their ports, by names and ports
abbrev pub tests : List (List ℕ) → List TopPort → List PhaseDef → List Bool
tests names ports phases = map (λ p. is_some (if_input (place_in names ports p.port))) phases

pub stop_of_ports : (h : Hierarchy) (cells : CellTable) (clock : clock_type.Clock) (names : List (List ℕ)) (ports : List TopPort) (phases : List PhaseDef) (s : Stop) → names ≡ all_names h → ports ≡ h.ports → phases ≡ clock.phases →
    StopsAt (IsPortRefusal (tests names ports phases)) s → StopsAt (IsTraceRefusal h cells clock) s
stop_of_ports h cells clock names ports phases s a b c stops = StopsAt-port h cells clock s (rw (a, b, c) at stops)

pub traced_of_spots : (h : Hierarchy) (cells : CellTable) (clock : clock_type.Clock) (names : List (List ℕ)) (ports : List TopPort) (phases : List PhaseDef) (spots : List Spot) (r : Result (List ℕ) Stop) →
    names ≡ all_names h → ports ≡ h.ports → phases ≡ clock.phases → first_false (tests names ports phases) ≡ None → spots ≡ spots_of names ports phases →
    MatchResult r (AreTraced h cells spots) (StopsAt (IsUntraced h cells spots)) → MatchResult r (AreTraces h cells clock) (StopsAt (IsTraceRefusal h cells clock))
traced_of_spots h cells clock names ports phases spots r a b c none same traced = traced_or_not h cells clock r (rw (a, b, c) at none) (rw (same, a, b, c) at traced)
