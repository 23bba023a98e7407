-- The merged design covers the one with edges apart.
use Rattle.std.proofs.Common.{◌≡◌, ℕ, suc, ◌<◌, ◌≤◌, ◌+◌, ◌-◌, ◌*◌, ◌/◌, ◌%◌, ℤ, Bool, true, false, cond, if◌then◌else◌, nat_lt, List, [], ◌∷◌, ◌++◌, map, filter, flat_map, length, get_or, take, zip, All, Any, Option, unwrap_or, arith, refl, ap, ◌∙◌, sym, length-append, count_by}
use Rattle.std.proofs.lemmas.Int.{ints}
use Rattle.std.proofs.lemmas.Bool.Decides.{nat_tests}
use Rattle.std.proofs.lemmas.List.{length-map}
use Rattle.std.proofs.lemmas.List.Sums.{count_by_more_yes, sum_by-take-le, length-filter}
use Rattle.std.proofs.lemmas.List.FromFn.{length-range_with_len, get_or-range_with_len}
use Rattle.std.specs.List.{AllZip}
use Rattle.mintc_cells.specs.declared.cell.Cell.{Cell}
use Rattle.mintc_cells.specs.declared.cell.Cell.TheVariants.{Gate, Latch, Flop, Clock}
use Rattle.mintc_clock.specs.declared.clock.Clock as clock_type
use Rattle.mintc_clock.specs.declared.clock.Listed.{Listed}
use Rattle.mintc_flatten_hierarchy.specs.declared.hierarchy.Hierarchy.{Hierarchy}
use Rattle.mintc_flatten_hierarchy.specs.declared.hierarchy.Join.{Join}
use Rattle.mintc_flatten_hierarchy.specs.Shape.{CellTable}
use Rattle.mintc_sdf_edges.specs.declared.delays.EdgeDelay.{EdgeDelay}
use Rattle.mintc_timing.specs.declared.parts.Element.{Element}
use Rattle.mintc_timing.specs.declared.parts.TimingArc.{TimingArc}
use Rattle.mintc_timing.specs.Design.{Design, element_at, element_count, no_element}
use Rattle.mintc_timing.specs.Paths.{input_of, output_of}
use Rattle.mintc_timing.proofs.SharedMembers.{All-range}
use Rattle.mintc_annotate_resolve.specs.Pins.{leaf_cell, leaf_at, all_leaves, all_names, pin_bit, is_storage, input_numbers, output_numbers}
use Rattle.mintc_annotate_resolve.specs.Resolution.{path_on, join_into, arcs_from}
use Rattle.mintc_annotate.specs.Phases.{storage}
use Rattle.mintc_annotate.specs.Made.{arc_of, inner_bit, no_delay, join_arc, gate_arc, gate_arcs, storage_arcs, leaf_arcs, input_arcs, output_arcs, bits_of, number_in, elements_of, arcs_of, port_element, design_made}
use Rattle.mintc_edges_cover.specs.Cover.{IsCover, LiesOn, IsWithin}
use Rattle.mintc_edges.specs.declared.edge.Edge.{Edge}
use Rattle.mintc_edges.specs.declared.edge.Edge.TheVariants.{Rise, Fall}
use Rattle.mintc_edges.specs.Edges.{only, any, each_edge, at_edge, edge_number, transitions_of}
use Rattle.mintc_edges.specs.Numbers.{SenseOf, without_edges, merged_range, wire_range, gate_range}
use Rattle.mintc_edges.specs.Apart.{bit_apart, join_arc_at, data_arc_at, output_arc_at, input_arc_at, port_arc_at, join_arcs, gate_arc_at, pin_arcs, gate_arcs_apart, data_arcs, output_pin_arcs, stored_arcs, leaf_arcs_apart, input_arcs_apart, output_arcs_apart, arcs_apart, elements_apart, stored_element, merged_element, port_elements, named_at, design_apart}
use Rattle.mintc_edges.specs.Laws.{AreBoth, EdgeDesignsAreCovered}
use Rattle.mintc_edges.proofs.RangeLaws.{IsInside, at-inside}
use Rattle.mintc_edges.proofs.ElementLaws.{stored-within, port-within, unwrap-or}
use Rattle.mintc_edges.proofs.TwiceLaws.{Twice, twice-append, twice-each, twice-count, twice-at}
use Rattle.mintc_edges.proofs.OverLaws.{Over, over-nil, over-append, over-flat, over-map, over-one, all-edges, all-map}

-- ---- bits

-- the bit of a design of n elements on which a bit lies
abbrev bit_on : ℕ → ℕ → ℕ
bit_on n k = if nat_lt k (4 * n) then 2 * (k / 4) + k % 2 else 2 * n + (k - 4 * n) / 2

edge-small : (e : Edge) → edge_number e ≤ 1
edge-small Rise = omega arith
edge-small Fall = omega arith

on-element : (n m side : ℕ) → m < 2 * n → side ≤ 1 → bit_on n (2 * m + side) ≡ 2 * (m / 2) + side
on-element n m side h small = grind (arith, nat_tests)

on-inner : (n b : ℕ) (e : Edge) → bit_on n (bit_apart n b e) ≡ inner_bit n b
on-inner n b e = let small = edge-small e in grind (arith, nat_tests)

on-input : (n l : ℕ) (e : Edge) → l < n → bit_on n (input_of (at_edge l e)) ≡ input_of l
on-input n l e h = let small = edge-small e in grind (arith, nat_tests)

on-output : (n l : ℕ) (e : Edge) → l < n → bit_on n (output_of (at_edge l e)) ≡ output_of l
on-output n l e h = let small = edge-small e in grind (arith, nat_tests)

module _ (h : Hierarchy) (cells : CellTable) (sense : SenseOf) (ds : List EdgeDelay) (n : ℕ) where
  abbrev On : TimingArc → TimingArc → Type 0
  On = LiesOn (bit_on n)

  -- an arc of no delay, between bits that lie on others
  plain : (a b c d : ℕ) → c ≡ bit_on n a → d ≡ bit_on n b → On (arc_of a b no_delay) (arc_of c d no_delay)
  plain a b c d from to = record { from = from; to = to; min = omega (arith, ints); max = omega (arith, ints) }

  said : (a b c d : ℕ) (w r : Option (ℤ × ℤ)) (default : ℤ × ℤ) → c ≡ bit_on n a → d ≡ bit_on n b → IsInside w r →
      On (arc_of a b (unwrap_or r default)) (arc_of c d (unwrap_or w default))
  said a b c d w r default from to inside =
      let reach = unwrap-or w r default inside in
      record { from = from; to = to; min = reach.0; max = reach.1 }

  joins : (js : List Join) → Over On (flat_map (join_arcs h cells ds n) js) (map (join_arc (merged_range h cells ds) n) js)
  joins js = over-map On (join_arcs h cells ds n) (join_arc (merged_range h cells ds) n) js
      (λ j. all-edges (λ a. On a (join_arc (merged_range h cells ds) n j)) (join_arc_at h cells ds n j)
      (λ e. said _ _ _ _ (merged_range h cells ds (join_into j.to)) (wire_range h cells ds e (join_into j.to)) no_delay
      (sym (on-inner n j.from e)) (sym (on-inner n j.to e)) (at-inside h cells ds any (only e) (join_into j.to))))

  gate-row : (l : ℕ) (default : ℤ × ℤ) (i : ℕ) (os : List ℕ) →
      Over On (flat_map (pin_arcs h cells sense ds n l default i) os) (map (gate_arc h (merged_range h cells ds) n l default i) os)
  gate-row l default i os = over-map On (pin_arcs h cells sense ds n l default i) (gate_arc h (merged_range h cells ds) n l default i) os
      (λ o. all-map (λ a. On a (gate_arc h (merged_range h cells ds) n l default i o)) (gate_arc_at h cells ds n l default i o)
      (λ t. said _ _ _ _ (merged_range h cells ds (path_on l i o)) (gate_range h cells ds t (path_on l i o)) default
      (sym (on-inner n (pin_bit h l i) t.from)) (sym (on-inner n (pin_bit h l o) t.to)) (at-inside h cells ds (only t.from) (only t.to) (path_on l i o)))
      (transitions_of (sense (leaf_at h l).cell i o)))

  gate : (l : ℕ) (cell : Cell) (default : ℤ × ℤ) → Over On (gate_arcs_apart h cells sense ds n l cell default) (gate_arcs h (merged_range h cells ds) n l cell default)
  gate l cell default = over-flat On _ _ (input_numbers cell) (λ k d below. gate-row l default (get_or (input_numbers cell) k d) (output_numbers cell))

  abbrev merged-data : ℕ → ℕ → TimingArc
  merged-data l number = arc_of (inner_bit n (pin_bit h l 0)) (input_of number) no_delay

  abbrev merged-output : ℕ → ℕ → ℕ → TimingArc
  merged-output l number o = arc_of (output_of number) (inner_bit n (pin_bit h l o)) no_delay

  stored : (l number : ℕ) (cell : Cell) → number < n → Over On (stored_arcs h sense n l number cell) (storage_arcs h n l number cell)
  stored l number cell below =
      over-append On (data_arcs h n l number) (flat_map (output_pin_arcs h sense n l number) (output_numbers cell))
      (merged-data l number ∷ []) (map (merged-output l number) (output_numbers cell))
      (over-one On (data_arcs h n l number) (merged-data l number)
      (all-edges (λ a. On a (merged-data l number)) (data_arc_at h n l number) (λ e. plain _ _ _ _ (sym (on-inner n (pin_bit h l 0) e)) (sym (on-input n number e below)))))
      (over-map On (output_pin_arcs h sense n l number) (merged-output l number) (output_numbers cell)
      (λ o. all-map (λ a. On a (merged-output l number o)) (output_arc_at h n l number o)
      (λ t. plain _ _ _ _ (sym (on-output n number t.from below)) (sym (on-inner n (pin_bit h l o) t.to))) (transitions_of (sense (leaf_at h l).cell 0 o))))

  leaf : (l : ℕ) (cell : Cell) → (is_storage cell ≡ true → number_in h cells l < n) → Over On (leaf_arcs_apart h cells sense ds n l cell) (leaf_arcs h cells (merged_range h cells ds) n l cell)
  leaf l (Gate inputs outputs min max) few = gate l (Gate inputs outputs min max) (min, max)
  leaf l (Clock input output invert ignored) few = over-nil On []
  leaf l (Latch pin_d pin_g high outputs ignored setup hold has_hold dq_min dq_max cq_min cq_max has_cq width) few =
      stored l (number_in h cells l) (Latch pin_d pin_g high outputs ignored setup hold has_hold dq_min dq_max cq_min cq_max has_cq width) (few refl)
  leaf l (Flop pin_d pin_clock rising outputs ignored setup hold has_hold cq_min cq_max width) few =
      stored l (number_in h cells l) (Flop pin_d pin_clock rising outputs ignored setup hold has_hold cq_min cq_max width) (few refl)

  abbrev merged-input : ℕ → Listed × ℕ → TimingArc
  merged-input k x = arc_of (output_of k) (inner_bit n x.1) no_delay

  abbrev merged-port : ℕ → Listed × ℕ → TimingArc
  merged-port k x = arc_of (inner_bit n x.1) (input_of k) (unwrap_or (merged_range h cells ds (arcs_from x.1)) no_delay)

  inputs : (k : ℕ) (xs : List (Listed × ℕ)) → k + length xs ≤ n → Over On (input_arcs_apart n k xs) (input_arcs n k xs)
  inputs k [] enough = over-nil On []
  inputs k (x ∷ xs) enough =
      over-append On (each_edge (input_arc_at n k x)) (input_arcs_apart n (k + 1) xs) (merged-input k x ∷ []) (input_arcs n (k + 1) xs)
      (over-one On (each_edge (input_arc_at n k x)) (merged-input k x)
      (all-edges (λ a. On a (merged-input k x)) (input_arc_at n k x) (λ e. plain _ _ _ _ (sym (on-output n k e (omega (arith, enough)))) (sym (on-inner n x.1 e)))))
      (inputs (k + 1) xs (omega (arith, enough)))

  outputs : (k : ℕ) (xs : List (Listed × ℕ)) → k + length xs ≤ n → Over On (output_arcs_apart h cells ds n k xs) (output_arcs (merged_range h cells ds) n k xs)
  outputs k [] enough = over-nil On []
  outputs k (x ∷ xs) enough =
      over-append On (each_edge (port_arc_at h cells ds n k x)) (output_arcs_apart h cells ds n (k + 1) xs) (merged-port k x ∷ []) (output_arcs (merged_range h cells ds) n (k + 1) xs)
      (over-one On (each_edge (port_arc_at h cells ds n k x)) (merged-port k x)
      (all-edges (λ a. On a (merged-port k x)) (port_arc_at h cells ds n k x)
      (λ e. said _ _ _ _ (merged_range h cells ds (arcs_from x.1)) (wire_range h cells ds e (arcs_from x.1)) no_delay (sym (on-inner n x.1 e)) (sym (on-input n k e (omega (arith, enough)))) (at-inside h cells ds any (only e) (arcs_from x.1)))))
      (outputs (k + 1) xs (omega (arith, enough)))

pub all-zip-count : {X Y : Type 0} (R : X → Y → Type 0) (xs : List X) (ys : List Y) → AllZip R xs ys → length ys ≡ length xs
all-zip-count R [] [] h = refl
all-zip-count R [] (y ∷ ys) h = absurd h
all-zip-count R (x ∷ xs) [] h = absurd h
all-zip-count R (x ∷ xs) (y ∷ ys) h = ap suc (all-zip-count R xs ys h.1)

zip-count : {X Y : Type 0} (xs : List X) (ys : List Y) → length ys ≡ length xs → length (zip xs ys) ≡ length xs
zip-count [] ys e = refl
zip-count (x ∷ xs) [] e = absurd (omega (arith, e))
zip-count (x ∷ xs) (y ∷ ys) e = ap suc (zip-count xs ys (omega (arith, e)))

same-input : (bits : ℕ → ℕ) (m : ℕ) → bits (2 * m + 0) ≡ 2 * (m / 2) + 0 → bits (input_of m) ≡ input_of (m / 2)
same-input bits m is = let a : 2 * m + 0 ≡ 2 * m = omega arith in let b : 2 * (m / 2) + 0 ≡ 2 * (m / 2) = omega arith in ap bits (sym a) ∙ is ∙ b

-- the facts of a cover, where element m lies on element m / 2 and bits lie on bits as told
pub record Covers (bits : ℕ → ℕ) (other design : Design) : Type 0 where
  pub phases : design.phases ≡ other.phases
  pub bounds : design.bounds ≡ other.bounds
  pub there : (m : ℕ) → m < element_count design → m / 2 < element_count other
  pub inputs : (m : ℕ) → m < element_count design → bits (input_of m) ≡ input_of (m / 2)
  pub outputs : (m : ℕ) → m < element_count design → bits (output_of m) ≡ output_of (m / 2)
  pub elements : (m : ℕ) → m < element_count design → IsWithin (element_at other (m / 2)) (element_at design m)
  pub arcs : All (λ a. Any (LiesOn bits a) other.arcs) design.arcs

-- ---- the number of a latch or flop among all
counted : {X : Type 0} (p : X → Bool) (xs : List X) (k : ℕ) (d : X) → k < length xs → p (get_or xs k d) ≡ true → count_by p (take k xs) < length (filter p xs)
counted p xs k d below passes =
    let more = count_by_more_yes p xs k d below passes in
    let most = sum_by-take-le (λ x. cond (p x) 1 0) xs (k + 1) in
    let all = length-filter p xs in
    omega arith

module _ (h : Hierarchy) (cells : CellTable) (sense : SenseOf) (clock : clock_type.Clock) (ds : List EdgeDelay) (phases : List ℕ)
    (same : length phases ≡ length (storage h cells)) where
  abbrev pub listed_in : List (Listed × ℕ)
  listed_in = bits_of h false clock.inputs

  abbrev pub listed_out : List (Listed × ℕ)
  listed_out = bits_of h true clock.outputs

  abbrev pub count : ℕ
  count = length (storage h cells) + length listed_in + length listed_out

  pub few : (l : ℕ) → l < length h.leaves → is_storage (leaf_cell h cells l) ≡ true → number_in h cells l < count
  few l below stores =
      let is : get_or (all_leaves h) l 0 ≡ l = get_or-range_with_len 0 (length h.leaves) l 0 below ∙ omega arith in
      let small = counted (λ k. is_storage (leaf_cell h cells k)) (all_leaves h) l 0 (rw (length-range_with_len 0 (length h.leaves)) below) (rw is stores) in
      omega (arith, small)

  abbrev leaf-arcs : ℕ → List TimingArc
  leaf-arcs l = leaf_arcs_apart h cells sense ds count l (leaf_cell h cells l)

  abbrev merged-arcs : ℕ → List TimingArc
  merged-arcs l = leaf_arcs h cells (merged_range h cells ds) count l (leaf_cell h cells l)

  leaves : Over (LiesOn (bit_on count)) (flat_map leaf-arcs (all_leaves h)) (flat_map merged-arcs (all_leaves h))
  leaves = over-flat (LiesOn (bit_on count)) leaf-arcs merged-arcs (all_leaves h)
      (All-range (λ l. Over (LiesOn (bit_on count)) (leaf-arcs l) (merged-arcs l)) 0 (length h.leaves)
      (λ l low high. leaf h cells sense ds count l (leaf_cell h cells l) (few l (omega (arith, high)))))

  all-arcs : Over (LiesOn (bit_on count)) (arcs_apart h cells sense clock ds) (arcs_of h cells clock (merged_range h cells ds))
  all-arcs =
      over-append (LiesOn (bit_on count)) _ _ _ _
      (over-append (LiesOn (bit_on count)) _ _ _ _
      (over-append (LiesOn (bit_on count)) _ _ _ _ (joins h cells sense ds count h.joins) leaves)
      (inputs h cells sense ds count (length (storage h cells)) listed_in (omega arith)))
      (outputs h cells sense ds count (length (storage h cells) + length listed_in) listed_out (omega arith))

  ports : (xs : List (Listed × ℕ)) → Twice IsWithin (map (port_element (all_names h)) xs) (flat_map (port_elements h) xs)
  ports xs = twice-each IsWithin (port_element (all_names h)) (λ x e. named_at e (port_element (all_names h) x)) (port-within (all_names h)) xs

  abbrev merged-stored : ℕ × ℕ → Element
  merged-stored x = merged_element h cells ds x.0 x.1

  abbrev apart-stored : ℕ × ℕ → Edge → Element
  apart-stored x = stored_element h cells sense ds x.0 x.1

  all-elements : Twice IsWithin (elements_of h cells clock (merged_range h cells ds) phases) (elements_apart h cells sense clock ds phases)
  all-elements =
      twice-append IsWithin (map merged-stored (zip (storage h cells) phases) ++ map (port_element (all_names h)) listed_in)
      (flat_map (λ x. each_edge (apart-stored x)) (zip (storage h cells) phases) ++ flat_map (port_elements h) listed_in)
      (map (port_element (all_names h)) listed_out) (flat_map (port_elements h) listed_out)
      (twice-append IsWithin (map merged-stored (zip (storage h cells) phases)) (flat_map (λ x. each_edge (apart-stored x)) (zip (storage h cells) phases))
      (map (port_element (all_names h)) listed_in) (flat_map (port_elements h) listed_in)
      (twice-each IsWithin merged-stored apart-stored (λ x e. stored-within h cells sense ds x.0 x.1 e) (zip (storage h cells) phases))
      (ports listed_in))
      (ports listed_out)

  element-count : length (elements_of h cells clock (merged_range h cells ds) phases) ≡ count
  element-count =
      let all = length-append (map merged-stored (zip (storage h cells) phases) ++ map (port_element (all_names h)) listed_in) (map (port_element (all_names h)) listed_out) in
      let front = length-append (map merged-stored (zip (storage h cells) phases)) (map (port_element (all_names h)) listed_in) in
      omega (
        arith,
        all,
        front,
        length-map listed_in (port_element (all_names h)),
        length-map listed_out (port_element (all_names h)),
        length-map (zip (storage h cells) phases) merged-stored,
        zip-count (storage h cells) phases same,
      )

  pub apart-count : length (elements_apart h cells sense clock ds phases) ≡ 2 * count
  apart-count = omega (arith, element-count, twice-count IsWithin _ _ all-elements)

  pub merged-count : length (elements_of h cells clock (merged_range h cells ds) phases) ≡ count
  merged-count = element-count

  pub whole : Covers (bit_on count) (design_made h cells clock (without_edges ds) phases) (design_apart h cells sense clock ds phases)
  whole = record {
    phases = refl;
    bounds = refl;
    there = λ m below. omega (arith, twice-count IsWithin _ _ all-elements, below);
    inputs = λ m below. (let is = on-element count m 0 (omega (arith, element-count, twice-count IsWithin _ _ all-elements, below)) (omega arith) in same-input (bit_on count) m is);
    outputs = λ m below. on-element count m 1 (omega (arith, element-count, twice-count IsWithin _ _ all-elements, below)) (omega arith);
    elements = λ m below. twice-at IsWithin _ _ all-elements m no_element below;
    arcs = all-arcs;
  }

-- the same of designs that are these, element by element and bit by bit as told
abbrev pub covering : (h : Hierarchy) (cells : CellTable) (sense : SenseOf) (clock : clock_type.Clock) (ds : List EdgeDelay) (merged apart : Design) →
    AreBoth h cells sense clock ds merged apart → IsCover merged apart
covering h cells sense clock ds merged apart both = record {
  phases = rw (both.is_merged, both.is_apart) (whole h cells sense clock ds both.phases (all-zip-count _ _ _ both.traced)).phases;
  bounds = rw (both.is_merged, both.is_apart) (whole h cells sense clock ds both.phases (all-zip-count _ _ _ both.traced)).bounds;
  element_on = λ m. m / 2;
  bit_on = bit_on (count h cells sense clock ds both.phases (all-zip-count _ _ _ both.traced));
  there = rw (both.is_merged, both.is_apart) (whole h cells sense clock ds both.phases (all-zip-count _ _ _ both.traced)).there;
  inputs = rw both.is_apart (whole h cells sense clock ds both.phases (all-zip-count _ _ _ both.traced)).inputs;
  outputs = rw both.is_apart (whole h cells sense clock ds both.phases (all-zip-count _ _ _ both.traced)).outputs;
  elements = rw (both.is_merged, both.is_apart) (whole h cells sense clock ds both.phases (all-zip-count _ _ _ both.traced)).elements;
  arcs = rw (both.is_merged, both.is_apart) (whole h cells sense clock ds both.phases (all-zip-count _ _ _ both.traced)).arcs;
}

pub edge_designs_are_covered_lem : EdgeDesignsAreCovered
edge_designs_are_covered_lem h cells sense clock ds merged apart both = covering h cells sense clock ds merged apart both
