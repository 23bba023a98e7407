-- All parts of the design that is made are within their limits.
use Rattle.std.proofs.Common.{◌≡◌, ◌<◌, ◌≤◌, ◌+◌, ℕ, ℤ, Bool, true, false, cond, ◌&&◌, List, [], ◌∷◌, ◌++◌, map, flat_map, length, find, All, Option, Some, None, option_map, unwrap_or, bytes_eq, refl, sym, ◌∙◌, subst, arith, length-append}
use Rattle.std.specs.Prelude.{zip}
use Rattle.std.specs.Bool.{beq}
use Rattle.std.proofs.lemmas.Bool.{and_parts}
use Rattle.std.proofs.lemmas.List.{length-map}
use Rattle.std.proofs.lemmas.List.Elements.{All-head, All-tail, All-nil, All-cons, All-append, All-map, All-weaker}
use Rattle.mintc_timing.proofs.SharedMembers.{All-range}
use Rattle.std.proofs.lemmas.List.Sums.{length-filter, sum_by-take-le}
use Rattle.std.proofs.lemmas.Slice.Zip.{AllZip-long, length-zip}
use Rattle.mintc_cells.specs.declared.cell.Cell.{Cell}
use Rattle.mintc_cells.specs.declared.cell.Cell.TheVariants.{Gate, Latch, Flop, Clock}
use Rattle.mintc_cells.specs.Rules.{pins, is_cell}
use Rattle.mintc_toml.specs.Rules.{is_delay}
use Rattle.mintc_clock.specs.declared.clock.Clock as clock_type
use Rattle.mintc_clock.specs.declared.clock.Listed.{Listed}
use Rattle.mintc_clock.specs.Laws.{KeepsListed, KeepsLimits}
use Rattle.mintc_clock.specs.Values.{is_bound}
use Rattle.mintc_flatten_hierarchy.specs.declared.hierarchy.Hierarchy.{Hierarchy}
use Rattle.mintc_flatten_hierarchy.specs.declared.hierarchy.TopPort.{TopPort}
use Rattle.mintc_flatten_hierarchy.specs.Shape.{IsFlattened, IsPort, CellTable}
use Rattle.mintc_sdf.specs.declared.delays.Delay.{Delay}
use Rattle.mintc_sdf.specs.Laws.{IsWithin}
use Rattle.mintc_timing.specs.Design.{Design}
use Rattle.mintc_timing.specs.Limits.{IsArc, IsElement, IsBound, HasParts}
use Rattle.mintc_annotate_resolve.specs.Pins.{leaf_at, leaf_cell, no_leaf, all_leaves, all_names, input_count, output_count, input_numbers, output_numbers, pin_bit, inner_name, dotted, leaf_path, is_storage}
use Rattle.mintc_annotate.specs.ClockPorts.{listed_in}
use Rattle.mintc_annotate.specs.Phases.{storage, phase_spots, IsPhaseOf}
use Rattle.mintc_annotate_resolve.specs.Resolution.{Said, said, range_of, path_on}
use Rattle.mintc_annotate.specs.Made.{RangeOf, bits_of, no_delay, gate_arc, gate_arcs, storage_arcs, leaf_arcs, number_in, arcs_of, elements_of, element_of, port_element, IsMade}
use Rattle.mintc_annotate_resolve.proofs.SharedRangeLimits.{AreSaid, range_in, all_said}
use Rattle.mintc_annotate.proofs.SharedElementLimits.{AreDelays, delay_is, order_is, or_in, KeepsHold}
use Rattle.mintc_annotate.proofs.SharedArcLimits.{none_delays, inner_arc, data_arc, output_arc, joins_in, inputs_in, outputs_in, pins_count}
use Rattle.mintc_annotate.proofs.DesignLimits.{elements_in, bound_is}
use Rattle.mintc_annotate.proofs.SharedTraceLaws.{number_yes}

flat_all : {A : Type 0} (P : A → Type 0) (f : ℕ → List A) (xs : List ℕ) → All (λ x. All P (f x)) xs → All P (flat_map f xs)
flat_all P f [] all = All-nil P
flat_all P f (x ∷ xs) all = All-append P (f x) (flat_map f xs) (All-head (λ y. All P (f y)) x xs all) (flat_all P f xs (All-tail (λ y. All P (f y)) x xs all))

-- the arcs of a gate
gate_in : (h : Hierarchy) (ss : List Said) (n m l : ℕ) (cell : Cell) (default : ℤ × ℤ) → AreSaid ss → (leaf_at h l).first_pin + length (pins cell) ≤ m → AreDelays default → All (IsArc n m) (gate_arcs h (range_of ss) n l cell default)
gate_in h ss n m l cell default are within delays =
    flat_all (IsArc n m) (λ i. map (gate_arc h (range_of ss) n l default i) (output_numbers cell)) (input_numbers cell)
    (All-range (λ i. All (IsArc n m) (map (gate_arc h (range_of ss) n l default i) (output_numbers cell))) 0 (input_count cell) (λ i first less.
    All-map (IsArc n m) (gate_arc h (range_of ss) n l default i) (output_numbers cell) (All-range (λ o. IsArc n m (gate_arc h (range_of ss) n l default i o)) (input_count cell) (output_count cell) (λ o low high.
    let count = pins_count cell in
    inner_arc n m (pin_bit h l i) (pin_bit h l o) (unwrap_or (range_of ss (path_on l i o)) default) (omega (arith, less, count, within)) (omega (arith, high, count, within))
    (or_in (range_of ss (path_on l i o)) default (λ q e. let r = range_in ss (path_on l i o) q are e in (r.low, r.high, r.ordered)) delays)))))

-- the arcs of a latch or flop
stored_arcs_in : (h : Hierarchy) (n m l e : ℕ) (cell : Cell) → (leaf_at h l).first_pin + length (pins cell) ≤ m → 1 ≤ input_count cell → e < n → All (IsArc n m) (storage_arcs h n l e cell)
stored_arcs_in h n m l e cell within some less =
    let count = pins_count cell in
    All-cons (IsArc n m) _ _ (data_arc n m (pin_bit h l 0) e no_delay (omega (arith, within, some, count)) less none_delays)
    (All-map (IsArc n m) _ (output_numbers cell) (All-range _ (input_count cell) (output_count cell) (λ o low high. output_arc n m (pin_bit h l o) e no_delay (omega (arith, high, count, within)) less none_delays)))

gate_delays : (inputs outputs : List (List ℕ)) (least most : ℤ) → is_cell (Gate inputs outputs least most) ≡ true → AreDelays (least, most)
gate_delays inputs outputs least most rules =
    let parts = and_parts _ _ rules in
    let limits = and_parts (is_delay least) (is_delay most) (and_parts _ _ parts.0).1 in
    (delay_is least limits.0, delay_is most limits.1, order_is least most parts.1)

leaf_in : (h : Hierarchy) (cells : CellTable) (ss : List Said) (n m l : ℕ) (cell : Cell) → AreSaid ss → (leaf_at h l).first_pin + length (pins cell) ≤ m → is_cell cell ≡ true → (is_storage cell ≡ true → number_in h cells l < n) →
    All (IsArc n m) (leaf_arcs h cells (range_of ss) n l cell)
leaf_in h cells ss n m l (Gate a b c d) are within rules less = gate_in h ss n m l (Gate a b c d) (c, d) are within (gate_delays a b c d rules)
leaf_in h cells ss n m l (Clock a b c d) are within rules less = All-nil (IsArc n m)
leaf_in h cells ss n m l (Latch a b c d ignored e f g i j k o p q) are within rules less = stored_arcs_in h n m l (number_in h cells l) (Latch a b c d ignored e f g i j k o p q) within (omega arith) (less refl)
leaf_in h cells ss n m l (Flop a b c d ignored e f g i j k) are within rules less = stored_arcs_in h n m l (number_in h cells l) (Flop a b c d ignored e f g i j k) within (omega arith) (less refl)

-- a latch or flop has a number among them
pub numbered : (h : Hierarchy) (cells : CellTable) (l : ℕ) → l < length h.leaves → is_storage (leaf_cell h cells l) ≡ true → number_in h cells l < length (storage h cells)
numbered h cells l within stored =
    omega (arith, number_yes h cells l within stored, sum_by-take-le (λ k. cond (is_storage (leaf_cell h cells k)) 1 0) (all_leaves h) (l + 1), length-filter (λ k. is_storage (leaf_cell h cells k)) (all_leaves h))

-- ---- the whole design
found_at : {A : Type 0} (P : A → Type 0) (b : Bool) (y x : A) (o : Option A) → P y → (o ≡ Some x → P x) → cond b (Some y) o ≡ Some x → P x
found_at P true y x o here more e = let same : y ≡ x = cc in subst P same here
found_at P false y x o here more e = more e

-- what a search finds is of the list
pub found_of : {A : Type 0} (P : A → Type 0) (test : A → Bool) (xs : List A) (x : A) → All P xs → find test xs ≡ Some x → P x
found_of P test [] x all e = absurd (cc)
found_of P test (y ∷ ys) x all e = found_at P (test y) y x (find test ys) (All-head P y ys all) (found_of P test ys x (All-tail P y ys all)) e

-- the bits of a listed port are inner bits
bits_at : (m : ℕ) (o : Option TopPort) → ((p : TopPort) → o ≡ Some p → All (λ (b : ℕ). b < m) p.bits) → All (λ (b : ℕ). b < m) (unwrap_or (option_map (λ (p : TopPort). p.bits) o) [])
bits_at m None give = All-nil (λ (b : ℕ). b < m)
bits_at m (Some p) give = give p refl

listed_inside : (h : Hierarchy) (output : Bool) (x : Listed) → All (IsPort h) h.ports → All (λ (b : ℕ). b < length h.inner) (unwrap_or (listed_in h.ports output x) [])
listed_inside h output x ports =
    bits_at (length h.inner) (find (λ p. bytes_eq p.name x.port && beq p.output output) h.ports) (λ p e. (found_of (IsPort h) (λ p. bytes_eq p.name x.port && beq p.output output) h.ports p ports e).within)

paired : (m : ℕ) (x : Listed) (bits : List ℕ) → All (λ (b : ℕ). b < m) bits → All (λ (y : Listed × ℕ). y.1 < m) (map (λ b. (x, b)) bits)
paired m x bits all = All-map (λ (y : Listed × ℕ). y.1 < m) (λ b. (x, b)) bits all

pub all_bits : (h : Hierarchy) (output : Bool) (xs : List Listed) → All (IsPort h) h.ports → All (λ (y : Listed × ℕ). y.1 < length h.inner) (bits_of h output xs)
all_bits h output [] ports = All-nil (λ (y : Listed × ℕ). y.1 < length h.inner)
all_bits h output (x ∷ xs) ports =
    All-append (λ (y : Listed × ℕ). y.1 < length h.inner) (map (λ b. (x, b)) (unwrap_or (listed_in h.ports output x) [])) (bits_of h output xs)
    (paired (length h.inner) x (unwrap_or (listed_in h.ports output x) []) (listed_inside h output x ports)) (all_bits h output xs ports)

-- all arcs
arcs_in : (h : Hierarchy) (cells : CellTable) (clock : clock_type.Clock) (ss : List Said) → AreSaid ss → IsFlattened cells h → ((l : ℕ) → l < length h.leaves → is_cell (leaf_cell h cells l) ≡ true) →
    All (IsArc (length (storage h cells) + length (bits_of h false clock.inputs) + length (bits_of h true clock.outputs)) (length h.inner)) (arcs_of h cells clock (range_of ss))
arcs_in h cells clock ss are shape rules =
    let n : ℕ = length (storage h cells) + length (bits_of h false clock.inputs) + length (bits_of h true clock.outputs) in
    let m : ℕ = length h.inner in
    All-append (IsArc n m) _ _
    (All-append (IsArc n m) _ _
    (All-append (IsArc n m) _ _
    (joins_in ss n m h.joins are shape.each_join)
    (flat_all (IsArc n m) (λ l. leaf_arcs h cells (range_of ss) n l (leaf_cell h cells l)) (all_leaves h)
    (All-range (λ l. All (IsArc n m) (leaf_arcs h cells (range_of ss) n l (leaf_cell h cells l))) 0 (length h.leaves) (λ l first below.
    let less : l < length h.leaves = omega (arith, below) in
    leaf_in h cells ss n m l (leaf_cell h cells l) are (shape.each_leaf l no_leaf less).within (rules l less)
    (λ stored. let number = numbered h cells l less stored in omega (arith, number))))))
    (inputs_in n m (length (storage h cells)) (bits_of h false clock.inputs) (omega arith) (all_bits h false clock.inputs shape.each_port)))
    (outputs_in ss n m (length (storage h cells) + length (bits_of h false clock.inputs)) (bits_of h true clock.outputs) are (omega arith) (all_bits h true clock.outputs shape.each_port))

-- how many elements there are
pub elements_count : (h : Hierarchy) (cells : CellTable) (clock : clock_type.Clock) (ranges : RangeOf) (phases : List ℕ) → length phases ≡ length (storage h cells) →
    length (elements_of h cells clock ranges phases) ≡ length (storage h cells) + length (bits_of h false clock.inputs) + length (bits_of h true clock.outputs)
elements_count h cells clock ranges phases same =
    let zipped = length-zip (storage h cells) phases in
    let one = length-map (zip (storage h cells) phases) (λ x. element_of ranges (dotted (leaf_path h x.0)) x.0 x.1 (leaf_cell h cells x.0)) in
    let two = length-map (bits_of h false clock.inputs) (port_element (all_names h)) in
    let three = length-map (bits_of h true clock.outputs) (port_element (all_names h)) in
    let outer = length-append (map (λ x. element_of ranges (dotted (leaf_path h x.0)) x.0 x.1 (leaf_cell h cells x.0)) (zip (storage h cells) phases) ++ map (port_element (all_names h)) (bits_of h false clock.inputs)) (map (port_element (all_names h)) (bits_of h true clock.outputs)) in
    let inner = length-append (map (λ x. element_of ranges (dotted (leaf_path h x.0)) x.0 x.1 (leaf_cell h cells x.0)) (zip (storage h cells) phases)) (map (port_element (all_names h)) (bits_of h false clock.inputs)) in
    omega (arith, zipped, one, two, three, outer, inner, same)

-- what is made has its parts in their ranges
pub made_has_parts : (h : Hierarchy) (cells : CellTable) (clock : clock_type.Clock) (delays : List Delay) (design : Design) → IsFlattened cells h → ((l : ℕ) → l < length h.leaves → is_cell (leaf_cell h cells l) ≡ true) →
    ((l : ℕ) → is_storage (leaf_cell h cells l) ≡ true → is_cell (leaf_cell h cells l) ≡ true) → ((l : ℕ) → KeepsHold (leaf_cell h cells l)) → KeepsLimits clock → All IsWithin delays → IsMade h cells clock delays design → HasParts design
made_has_parts h cells clock delays design shape rules stored_rules holds keeps sound made =
    let ss : List Said = said h cells delays in
    let are : AreSaid ss = all_said h cells delays sound in
    let spots : length (phase_spots h clock) ≡ length clock.phases = length-map clock.phases _ in
    let names : length (map (λ p. p.name) clock.phases) ≡ length clock.phases = length-map clock.phases _ in
    let inner : length (all_names h) ≡ length h.inner = length-map h.inner (inner_name h) in
    let count = elements_count h cells clock (range_of ss) made.phases (AllZip-long (IsPhaseOf h cells (phase_spots h clock)) (storage h cells) made.phases made.traced) in
    let some = keeps.some_phase in
    subst HasParts (sym made.made) (record {
      some_phase = omega (arith, names, some);
      each_element = subst (λ (k : ℕ). All (IsElement k) (elements_of h cells clock (range_of ss) made.phases)) (spots ∙ sym names)
          (elements_in h cells clock (phase_spots h clock) ss made.phases are stored_rules holds
          (subst (λ (k : ℕ). All (KeepsListed k) clock.inputs) (sym spots) keeps.each_input) (subst (λ (k : ℕ). All (KeepsListed k) clock.outputs) (sym spots) keeps.each_output) made.traced);
      each_arc = subst (λ (k : ℕ). All (IsArc k (length (all_names h))) (arcs_of h cells clock (range_of ss))) (sym count)
          (subst (λ (m : ℕ). All (IsArc (length (storage h cells) + length (bits_of h false clock.inputs) + length (bits_of h true clock.outputs)) m) (arcs_of h cells clock (range_of ss))) (sym inner) (arcs_in h cells clock ss are shape rules));
      each_bound = subst (λ (k : ℕ). All (IsBound k) clock.bounds) (sym names) (All-weaker (λ b. is_bound (length clock.phases) b ≡ true) (IsBound (length clock.phases)) (bound_is (length clock.phases)) clock.bounds keeps.each_bound);
    })
