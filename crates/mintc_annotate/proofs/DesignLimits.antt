-- The elements and bounds of the design that is made are within their limits.
use Rattle.std.proofs.Common.{◌≡◌, ◌<◌, ◌≤◌, ◌+◌, ℕ, Bool, true, false, ◌&&◌, cond, List, [], ◌∷◌, map, length, All, Option, Some, unwrap_or, arith}
use Rattle.std.specs.Prelude.{int_le, nat_le, zip}
use Rattle.std.specs.List.{AllZip}
use Rattle.std.proofs.lemmas.Bool.{and_parts}
use Rattle.std.proofs.lemmas.Bool.Decides.{nat_tests}
use Rattle.std.proofs.lemmas.Int.{ints}
use Rattle.std.proofs.lemmas.List.Elements.{filter_passes, All-head, All-tail, All-nil, All-cons, All-append, All-map, All-weaker}
use Rattle.mintc_cells.specs.Rules.{is_cell}
use Rattle.mintc_toml.specs.Rules.{is_delay, is_margin, is_name}
use Rattle.mintc_clock.specs.declared.clock.Clock as clock_type
use Rattle.mintc_clock.specs.declared.clock.Listed.{Listed}
use Rattle.mintc_clock.specs.Values.{is_phase, is_point, is_bound, has_delays, has_margins}
use Rattle.mintc_clock.specs.Laws.{KeepsListed}
use Rattle.mintc_flatten_hierarchy.specs.declared.hierarchy.Hierarchy.{Hierarchy}
use Rattle.mintc_timing.specs.declared.parts.Bound.{Bound}
use Rattle.mintc_timing.specs.declared.parts.Point.{Point}
use Rattle.mintc_timing.specs.declared.parts.Point.TheVariants.{Origin, Start, End}
use Rattle.mintc_timing.specs.Limits.{IsElement, IsPhase, IsPoint, IsBound}
use Rattle.mintc_annotate.specs.declared.searching.Spot.{Spot}
use Rattle.mintc_flatten_hierarchy.specs.Shape.{CellTable}
use Rattle.mintc_annotate_resolve.specs.Pins.{leaf_cell, leaf_path, dotted, all_names, is_storage}
use Rattle.mintc_annotate.specs.ClockPorts.{listed_in}
use Rattle.mintc_annotate.specs.Phases.{storage, first_at, same_spot, IsPhaseOf}
use Rattle.mintc_annotate_resolve.specs.Resolution.{Said, range_of}
use Rattle.mintc_annotate.specs.Made.{element_of, port_element, bits_of, elements_of}
use Rattle.mintc_annotate_resolve.proofs.SharedRangeLimits.{AreSaid, range_in}
use Rattle.mintc_annotate.proofs.SharedElementLimits.{margin_is, delay_is, order_is, KeepsHold, storage_in}

phase_is : (k p : ℕ) → is_phase k p ≡ true → IsPhase k p
phase_is k p h = let b = and_parts (nat_le 1 p) (nat_le p k) h in let low = b.0 in let high = b.1 in (grind (arith, nat_tests, low), grind (arith, nat_tests, high))

point_is : (k : ℕ) (p : Point) → is_point k p ≡ true → IsPoint k p
point_is k Origin h = tt
point_is k (Start p) h = phase_is k p h
point_is k (End p) h = phase_is k p h

pub bound_is : (k : ℕ) (b : Bound) → is_bound k b ≡ true → IsBound k b
bound_is k b h =
    let parts = and_parts (is_point k b.from && is_point k b.to) (is_margin b.gap && nat_le b.cycles 1) h in
    let points = and_parts (is_point k b.from) (is_point k b.to) parts.0 in
    let numbers = and_parts (is_margin b.gap) (nat_le b.cycles 1) parts.1 in
    record { from = point_is k b.from points.0; to = point_is k b.to points.1; gap = margin_is b.gap numbers.0; cycles = grind (arith, nat_tests, numbers.1) }

-- the element of a bit of a listed port
port_in : (h : Hierarchy) (k : ℕ) (x : Listed × ℕ) → KeepsListed k x.0 → IsElement k (port_element (all_names h) x)
port_in h k x keeps =
    let parts = and_parts (is_name x.0.port && is_phase k x.0.phase) (has_delays x.0 && has_margins x.0) keeps.limits in
    let named = and_parts (is_name x.0.port) (is_phase k x.0.phase) parts.0 in
    let numbers = and_parts (has_delays x.0) (has_margins x.0) parts.1 in
    let delays = and_parts (is_delay x.0.min && is_delay x.0.max) (int_le x.0.min x.0.max) numbers.0 in
    let each = and_parts (is_delay x.0.min) (is_delay x.0.max) delays.0 in
    let margins = and_parts (is_margin x.0.setup) (is_margin x.0.hold) numbers.1 in
    grind (arith, ints, phase_is k x.0.phase named.1, margin_is x.0.setup margins.0, margin_is x.0.hold margins.1, keeps.no_hold, delay_is x.0.min each.0, delay_is x.0.max each.1, order_is x.0.min x.0.max delays.1)

-- all bits of listed ports
one_listed : (k : ℕ) (x : Listed) (bits : List ℕ) → KeepsListed k x → All (λ (y : Listed × ℕ). KeepsListed k y.0) (map (λ b. (x, b)) bits)
one_listed k x bits keeps = All-map (λ (y : Listed × ℕ). KeepsListed k y.0) (λ b. (x, b)) bits (λ i d less. keeps)

all_listed : (h : Hierarchy) (output : Bool) (k : ℕ) (xs : List Listed) → All (KeepsListed k) xs → All (λ (y : Listed × ℕ). KeepsListed k y.0) (bits_of h output xs)
all_listed h output k [] keeps = All-nil (λ (y : Listed × ℕ). KeepsListed k y.0)
all_listed h output k (x ∷ xs) keeps =
    All-append (λ (y : Listed × ℕ). KeepsListed k y.0) (map (λ b. (x, b)) (unwrap_or (listed_in h.ports output x) [])) (bits_of h output xs)
    (one_listed k x (unwrap_or (listed_in h.ports output x) []) (All-head (KeepsListed k) x xs keeps)) (all_listed h output k xs (All-tail (KeepsListed k) x xs keeps))

ports_in : (h : Hierarchy) (k : ℕ) (xs : List (Listed × ℕ)) → All (λ (y : Listed × ℕ). KeepsListed k y.0) xs → All (IsElement k) (map (port_element (all_names h)) xs)
ports_in h k xs keeps = All-map (IsElement k) (port_element (all_names h)) xs (All-weaker (λ (y : Listed × ℕ). KeepsListed k y.0) (λ y. IsElement k (port_element (all_names h) y)) (port_in h k) xs keeps)

-- a phase that is found is one of them
found_here : (test : Bool) (n p : ℕ) (rest : Option ℕ) (count : ℕ) → (rest ≡ Some p → (n + 1 ≤ p) × (p < n + 1 + count)) → cond test (Some n) rest ≡ Some p → (n ≤ p) × (p < n + (1 + count))
found_here true n p rest count more e = let same : n ≡ p = cc in (omega (arith, same), omega (arith, same))
found_here false n p rest count more e = let m = more e in let low = m.0 in let high = m.1 in (omega (arith, low), omega (arith, high))

found_in : (n : ℕ) (spots : List Spot) (s : Spot) (p : ℕ) → first_at n spots s ≡ Some p → (n ≤ p) × (p < n + length spots)
found_in n [] s p e = absurd (cc)
found_in n (t ∷ ts) s p e =
    let here = found_here (same_spot t s) n p (first_at (n + 1) ts s) (length ts) (λ f. found_in (n + 1) ts s p f) e in
    (here.0, omega (arith, here.1))

phase_found : (h : Hierarchy) (cells : CellTable) (spots : List Spot) (l p : ℕ) → IsPhaseOf h cells spots l p → IsPhase (length spots) p
phase_found h cells spots l p is = let found = found_in 1 spots is.end p is.found in let low = found.0 in let high = found.1 in (low, omega (arith, high))

-- the elements of latches and flops with their phases
stored_in : (h : Hierarchy) (cells : CellTable) (spots : List Spot) (ss : List Said) (ls ps : List ℕ) → AreSaid ss → ((l : ℕ) → is_storage (leaf_cell h cells l) ≡ true → is_cell (leaf_cell h cells l) ≡ true) → ((l : ℕ) → KeepsHold (leaf_cell h cells l)) →
    All (λ l. is_storage (leaf_cell h cells l) ≡ true) ls → AllZip (IsPhaseOf h cells spots) ls ps →
    All (IsElement (length spots)) (map (λ x. element_of (range_of ss) (dotted (leaf_path h x.0)) x.0 x.1 (leaf_cell h cells x.0)) (zip ls ps))
stored_in h cells spots ss [] ps are rules holds stored traced = All-nil (IsElement (length spots))
stored_in h cells spots ss (l ∷ ls) [] are rules holds stored traced = absurd traced
stored_in h cells spots ss (l ∷ ls) (p ∷ ps) are rules holds stored traced =
    All-cons (IsElement (length spots)) (element_of (range_of ss) (dotted (leaf_path h l)) l p (leaf_cell h cells l)) _
    (storage_in (range_of ss) (λ m r e. range_in ss m r are e) (dotted (leaf_path h l)) l p (length spots) (leaf_cell h cells l) (rules l (All-head (λ k. is_storage (leaf_cell h cells k) ≡ true) l ls stored)) (holds l)
    (All-head (λ k. is_storage (leaf_cell h cells k) ≡ true) l ls stored) (phase_found h cells spots l p traced.0))
    (stored_in h cells spots ss ls ps are rules holds (All-tail (λ k. is_storage (leaf_cell h cells k) ≡ true) l ls stored) traced.1)

-- all elements
pub elements_in : (h : Hierarchy) (cells : CellTable) (clock : clock_type.Clock) (spots : List Spot) (ss : List Said) (phases : List ℕ) → AreSaid ss →
    ((l : ℕ) → is_storage (leaf_cell h cells l) ≡ true → is_cell (leaf_cell h cells l) ≡ true) → ((l : ℕ) → KeepsHold (leaf_cell h cells l)) → All (KeepsListed (length spots)) clock.inputs → All (KeepsListed (length spots)) clock.outputs →
    AllZip (IsPhaseOf h cells spots) (storage h cells) phases → All (IsElement (length spots)) (elements_of h cells clock (range_of ss) phases)
elements_in h cells clock spots ss phases are rules holds inputs outputs traced =
    All-append (IsElement (length spots)) _ _
    (All-append (IsElement (length spots)) _ _ (stored_in h cells spots ss (storage h cells) phases are rules holds (filter_passes (λ l. is_storage (leaf_cell h cells l)) _) traced)
    (ports_in h (length spots) (bits_of h false clock.inputs) (all_listed h false (length spots) clock.inputs inputs)))
    (ports_in h (length spots) (bits_of h true clock.outputs) (all_listed h true (length spots) clock.outputs outputs))
