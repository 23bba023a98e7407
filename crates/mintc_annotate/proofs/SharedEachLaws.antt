-- A hierarchy, cells, a clock and delays make a design, or there is a refusal: for each search back ends, or it goes on after as
-- many steps as there are bits, and so goes round.
use Rattle.std.proofs.Common.{◌≡◌, ◌<◌, ◌+◌, ℕ, List, [], ◌∷◌, ◌++◌, length, Option, Some, None, refl, ap, arith, ◌⊎◌, inl, inr, ⊎_elim}
use Rattle.std.specs.List.{AllZip}
use Rattle.std.proofs.lemmas.List.Elements.{All-nil, All-cons, All-weaker}
use Rattle.mintc_text.specs.declared.limits.Most.{Most}
use Rattle.mintc_text.specs.declared.refusals.Refusal.{Refusal}
use Rattle.mintc_text.specs.declared.refusals.Refusal.TheVariants as refusal
use Rattle.mintc_text.specs.declared.refusals.Role.TheVariants as role
use Rattle.mintc_cells.specs.declared.cell.Cell.{Cell}
use Rattle.mintc_cells.specs.declared.cell.Cell.TheVariants.{Gate, Latch, Flop, Clock}
use Rattle.mintc_flatten_hierarchy.specs.declared.hierarchy.Hierarchy.{Hierarchy}
use Rattle.mintc_flatten_hierarchy.specs.Shape.{CellTable}
use Rattle.mintc_clock.specs.declared.clock.Clock as clock_type
use Rattle.mintc_sdf.specs.declared.delays.Delay.{Delay}
use Rattle.mintc_timing.specs.Design.{Design}
use Rattle.mintc_timing.specs.Limits.{limit_of}
use Rattle.mintc_annotate_resolve.specs.Pins.{leaf_cell, pin_bit}
use Rattle.mintc_annotate_resolve.specs.Resolution.{first_refusal}
use Rattle.mintc_annotate.specs.declared.searching.Drive.{Drive}
use Rattle.mintc_annotate.specs.declared.searching.Spot.{Spot}
use Rattle.mintc_annotate.specs.ClockPorts.{has_ports, first_false}
use Rattle.mintc_annotate.specs.Phases.{storage, spot, drives, driver_of, EndsAt, first_at, IsStart, IsPhaseOf, phase_spots}
use Rattle.mintc_annotate.specs.Searches.{AreWithin, IsPhaseFrom, onward}
use Rattle.mintc_annotate.specs.Made.{IsMade, IsAnnotated, IsAnnotateRefusal, no_port, annotates_nothing, no_phase, too_many, design_made}
use Rattle.mintc_annotate.specs.Laws.{HaveDesignOrRefusal}
use Rattle.mintc_annotate.proofs.JumpLaws.{ends_there, led_on}
use Rattle.mintc_annotate.proofs.SearchLaws.{never_ends}
use Rattle.mintc_annotate.proofs.SharedTraceLaws.{no_phase as ends_nowhere, phase_of_leaf, none_of_leaf}

-- a number above all bits of drivers, and above another
bits_above : (ds : List Drive) (b : ℕ) → (count : ℕ) × AreWithin count ds × (b < count)
bits_above [] b = (b + 1, All-nil (λ d. (d.to < b + 1) × (d.from < b + 1)), omega arith)
bits_above (d ∷ ds) b =
    let rest = bits_above ds b in
    let count : ℕ = rest.0 + d.to + d.from + 1 in
    let low = rest.2 in (
      count,
      All-cons (λ e. (e.to < count) × (e.from < count)) d ds (omega arith, omega arith)
          (All-weaker (λ e. (e.to < rest.0) × (e.from < rest.0)) (λ e. (e.to < count) × (e.from < count)) (λ e h. (let a = h.0 in omega arith, let a = h.1 in omega arith)) ds rest.1),
      omega arith,
    )

-- The search from a spot ends, or it ends nowhere.
abbrev Searches : List Drive → Spot → Type 0
Searches ds s = ((n : ℕ) × (end : Spot) × EndsAt ds n s end) ⊎ ((n : ℕ) (end : Spot) → EndsAt ds n s end → ⊥)

searches_from : (ds : List Drive) (s : Spot) (count : ℕ) (o : Option Drive) → AreWithin count ds → s.bit < count → driver_of ds (onward ds count s).bit ≡ o → Searches ds s
searches_from ds s count None within low is = let found = ends_there ds count s is in inl (found.0, onward ds count s, found.1)
searches_from ds s count (Some d) within low is = inr (never_ends ds count count s (onward ds count s) within low (omega arith) (led_on ds count s d is))

searches : (ds : List Drive) (s : Spot) → Searches ds s
searches ds s = let above = bits_above ds s.bit in searches_from ds s above.0 (driver_of ds (onward ds above.0 s).bit) above.1 above.2 refl

-- a spot has a phase or none
abbrev pub Phased : (ℕ → Type 0) → Type 0
Phased P = ((p : ℕ) × P p) ⊎ ((p : ℕ) → P p → ⊥)

phase_at : (ds : List Drive) (spots : List Spot) (s end : Spot) (n : ℕ) (o : Option ℕ) → EndsAt ds n s end → first_at 1 spots end ≡ o → Phased (IsPhaseFrom ds spots s)
phase_at ds spots s end n None ends is = inr (ends_nowhere ds spots n s end ends is)
phase_at ds spots s end n (Some p) ends is = inl (p, record { steps = n; end = end; ends = ends; found = is })

phase_from : (ds : List Drive) (spots : List Spot) (s : Spot) → Phased (IsPhaseFrom ds spots s)
phase_from ds spots s = ⊎_elim
    (λ (h : (n : ℕ) × (end : Spot) × EndsAt ds n s end). phase_at ds spots s h.1 h.0 (first_at 1 spots h.1) h.2 refl)
    (λ (none : (n : ℕ) (end : Spot) → EndsAt ds n s end → ⊥). inr (λ p is. none is.steps is.end is.ends))
    (searches ds s)

-- the search of a leaf starts somewhere, or it has none
start_of : (h : Hierarchy) (l : ℕ) (cell : Cell) → ((s : Spot) × IsStart h l cell s) ⊎ ((s : Spot) → IsStart h l cell s → ⊥)
start_of h l (Gate inputs outputs min max) = inr (λ s is. is)
start_of h l (Latch pin_d pin_g high outputs ignored setup hold has_hold dq_min dq_max cq_min cq_max has_cq width) = inl (spot (pin_bit h l 1) high, refl)
start_of h l (Flop pin_d pin_clock rising outputs ignored setup hold has_hold cq_min cq_max width) = inl (spot (pin_bit h l 1) rising, refl)
start_of h l (Clock input output invert ignored) = inr (λ s is. is)

-- what is traced of some leaves: all their phases, or those before the first without one
abbrev pub Traced : (ℕ → ℕ → Type 0) → List ℕ → Type 0
Traced P ls = ((phases : List ℕ) × AllZip P ls phases)
    ⊎ ((before : List ℕ) × (phases : List ℕ) × (leaf : ℕ) × (after : List ℕ) × (ls ≡ before ++ leaf ∷ after) × AllZip P before phases × ((p : ℕ) → P leaf p → ⊥))

one_more : (P : ℕ → ℕ → Type 0) (l : ℕ) (ls : List ℕ) → Phased (P l) → Traced P ls → Traced P (l ∷ ls)
one_more P l ls (inl (p, here)) (inl (phases, all)) = inl (p ∷ phases, (here, all))
one_more P l ls (inl (p, here)) (inr (before, phases, leaf, after, whole, all, none)) =
    inr (l ∷ before, p ∷ phases, leaf, after, ap (λ (xs : List ℕ). l ∷ xs) whole, (here, all), none)
one_more P l ls (inr none) other = inr ([], [], l, ls, refl, tt, none)

pub traced : (P : ℕ → ℕ → Type 0) → ((l : ℕ) → Phased (P l)) → (ls : List ℕ) → Traced P ls
traced P each [] = inl ([], tt)
traced P each (l ∷ ls) = one_more P l ls (each l) (traced P each ls)

module _ (most : Most) (h : Hierarchy) (cells : CellTable) (clock : clock_type.Clock) (delays : List Delay) where
  abbrev pub spots : List Spot
  spots = phase_spots h clock

  pub phase_of : (l : ℕ) → Phased (IsPhaseOf h cells spots l)
  phase_of l = ⊎_elim
      (λ (starts : (s : Spot) × IsStart h l (leaf_cell h cells l) s).
      ⊎_elim
      (λ (found : (p : ℕ) × IsPhaseFrom (drives h cells) spots starts.0 p). inl (found.0, phase_of_leaf h cells spots l found.0 starts.0 starts.1 found.1))
      (λ (none : (p : ℕ) → IsPhaseFrom (drives h cells) spots starts.0 p → ⊥). inr (none_of_leaf h cells spots l starts.0 starts.1 none))
      (phase_from (drives h cells) spots starts.0))
      (λ (none : (s : Spot) → IsStart h l (leaf_cell h cells l) s → ⊥). inr (λ p is. none is.start is.starts))
      (start_of h l (leaf_cell h cells l))

  abbrev Answer : Type 0
  Answer = ((design : Design) × IsAnnotated most h cells clock delays design) ⊎ ((refused : Refusal) × IsAnnotateRefusal most h cells clock delays refused)

  of_made : (design : Design) (over : Option Refusal) → IsMade h cells clock delays design → limit_of most design ≡ over → Answer
  of_made design None made is = inl (design, record { whole = made; within = is })
  of_made design (Some refused) made is = inr (refused, too_many design made is)

  of_traced : first_false (has_ports h clock) ≡ None → first_refusal h cells delays ≡ None → Traced (IsPhaseOf h cells spots) (storage h cells) → Answer
  of_traced ports annotates (inl (phases, all)) =
      let design = design_made h cells clock delays phases in
      of_made design (limit_of most design) (record { ports = ports; annotates = annotates; phases = phases; traced = all; made = refl }) refl
  of_traced ports annotates (inr (before, phases, leaf, after, whole, all, none)) =
      inr (
        refusal.NoPhase (length before),
        no_phase ports annotates (length before) refl (record { before = before; phases = phases; leaf = leaf; after = after; whole = whole; traced = all; none = none; count = refl }),
      )

  of_delays : (o : Option Refusal) → first_false (has_ports h clock) ≡ None → first_refusal h cells delays ≡ o → Answer
  of_delays None ports is = of_traced ports is (traced (IsPhaseOf h cells spots) phase_of (storage h cells))
  of_delays (Some refused) ports is = inr (refused, annotates_nothing ports is)

  of_ports : (o : Option ℕ) → first_false (has_ports h clock) ≡ o → Answer
  of_ports None is = of_delays (first_refusal h cells delays) is refl
  of_ports (Some n) is = inr (refusal.NoInstance role.Clock n, no_port is)

pub have_design_or_refusal : HaveDesignOrRefusal
have_design_or_refusal most h cells clock delays = of_ports most h cells clock delays (first_false (has_ports h clock)) refl
