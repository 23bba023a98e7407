-- The arcs by the table are those of the design.
use Rattle.std.proofs.Common.{◌≡◌, ℕ, zero, suc, ◌+◌, ◌-◌, ℤ, false, List, [], ◌∷◌, ◌++◌, map, flat_map, length, All, unwrap_or, refl, sym, ap, ◌∙◌, arith}
use Rattle.std.specs.List.{range_with_len}
use Rattle.std.proofs.lemmas.List.{length-map}
use Rattle.mintc_cells.specs.declared.cell.Cell.{Cell}
use Rattle.mintc_cells.specs.declared.cell.Cell.TheVariants.{Gate, Latch, Flop, Clock}
use Rattle.mintc_cells.specs.Entries.{cell_at}
use Rattle.mintc_clock.specs.declared.clock.Listed.{Listed}
use Rattle.mintc_flatten_hierarchy.specs.declared.hierarchy.Hierarchy.{Hierarchy}
use Rattle.mintc_flatten_hierarchy.specs.declared.hierarchy.Join.{Join}
use Rattle.mintc_flatten_hierarchy.specs.Shape.{CellTable}
use Rattle.mintc_sdf_edges.specs.declared.delays.EdgeDelay.{EdgeDelay}
use Rattle.mintc_senses.specs.Senses.{sense_at}
use Rattle.mintc_senses_expressions.specs.declared.transitions.Transitions.{Transitions}
use Rattle.mintc_timing.specs.declared.parts.TimingArc.{TimingArc}
use Rattle.mintc_timing.specs.Paths.{input_of}
use Rattle.mintc_annotate_resolve.specs.Pins.{leaf_at, leaf_cell, all_leaves, is_storage, pin_bit, input_count, output_count, input_numbers, output_numbers}
use Rattle.mintc_annotate_resolve.specs.Resolution.{path_on, join_into, arcs_from}
use Rattle.mintc_annotate.specs.declared.listing.ListedBit.{ListedBit}
use Rattle.mintc_annotate.specs.Counts.{with_port}
use Rattle.mintc_annotate.specs.Made.{arc_of, no_delay, number_in}
use Rattle.mintc_annotate.specs.Phases.{storage}
use Rattle.mintc_edges.specs.declared.edge.Edge.{Edge}
use Rattle.mintc_edges.specs.declared.edge.Edge.TheVariants.{Rise, Fall}
use Rattle.mintc_edges.specs.declared.told.Told.{Told}
use Rattle.mintc_edges.specs.Edges.{each_edge, at_edge, transitions_of}
use Rattle.mintc_edges.specs.Numbers.{sense_of}
use Rattle.mintc_edges.specs.Told.{AreTold, path_told, told_at}
use Rattle.mintc_edges.specs.Apart.{bit_apart, join_arc_at, port_arc_at, join_arcs, gate_arc_at, pin_arcs, gate_arcs_apart, data_arcs, output_pin_arcs, stored_arcs, leaf_arcs_apart, input_arcs_apart, output_arcs_apart, arcs_over}
use Rattle.mintc_edges.specs.Whole.{arcs_kept}
use Rattle.mintc_edges.specs.Kept.{join_arc_kept, gate_arc_kept, pin_arcs_kept, row_arcs_kept, gate_arcs_kept, output_arc_kept, output_arcs_kept, stored_arcs_kept, leaf_arcs_kept, leaf_kept, leaf_arcs_in, port_arc_kept, output_arcs_of}
use Rattle.mintc_sdf_edges.specs.Laws.{HasEdges}
use Rattle.mintc_edges.proofs.WiderLaws.{at-ends, at-transition}

module _ {X Y : Type 0} where
  pub map-same : (f g : X → Y) (xs : List X) → ((x : X) → f x ≡ g x) → map f xs ≡ map g xs
  map-same f g [] same = refl
  map-same f g (x ∷ xs) same = ap (λ y. y ∷ map f xs) (same x) ∙ ap (λ l. g x ∷ l) (map-same f g xs same)

  pub flat-same : (f g : X → List Y) (xs : List X) → ((x : X) → f x ≡ g x) → flat_map f xs ≡ flat_map g xs
  flat-same f g [] same = refl
  flat-same f g (x ∷ xs) same = ap (λ l. l ++ flat_map f xs) (same x) ∙ ap (λ l. g x ++ l) (flat-same f g xs same)

module _ {X : Type 0} where
  pub edges-same : (f g : Edge → X) → ((e : Edge) → f e ≡ g e) → each_edge f ≡ each_edge g
  edges-same f g same = ap (λ x. x ∷ f Fall ∷ []) (same Rise) ∙ ap (λ x. g Rise ∷ x ∷ []) (same Fall)

  -- counted on from a number, or from 0
  shifted : (f : ℕ → List X) (k j n : ℕ) → flat_map f (range_with_len (k + j) n) ≡ flat_map (λ i. f (k + i)) (range_with_len j n)
  shifted f k j zero = refl
  shifted f k j (suc n) =
      let next : (k + j) + 1 ≡ k + (j + 1) = omega arith in
      ap (λ m. f (k + j) ++ flat_map f (range_with_len m n)) next ∙ ap (λ l. f (k + j) ++ l) (shifted f k (j + 1) n)

  pub outputs-shifted : (f g : ℕ → List X) (k n : ℕ) → ((i : ℕ) → g i ≡ f (k + i)) → flat_map g (range_with_len 0 n) ≡ flat_map f (range_with_len k n)
  outputs-shifted f g k n same =
      let at : k + 0 ≡ k = omega arith in
      flat-same g (λ i. f (k + i)) (range_with_len 0 n) same ∙ sym (shifted f k 0 n) ∙ ap (λ m. flat_map f (range_with_len m n)) at

-- an output counted among all pins, and among outputs
pub sense-same : (senses : List (List (List Transitions))) (cells : CellTable) (c i k o : ℕ) → k ≡ input_count (cell_at cells c) → sense_at senses c i o ≡ sense_of senses cells c i (k + o)
sense-same senses cells c i k o is =
    let back : (k + o) - k ≡ o = omega arith in
    ap (sense_at senses c i) (sym back) ∙ ap (λ m. sense_at senses c i ((k + o) - m)) is

module _ (h : Hierarchy) (cells : CellTable) (ds : List EdgeDelay) (edges : All HasEdges ds) (senses : List (List (List Transitions))) (told : Told) (are : AreTold h cells ds told) (n : ℕ) where
  joins-same : (js : List Join) → flat_map (λ j. each_edge (join_arc_kept told n j)) js ≡ flat_map (join_arcs h cells ds n) js
  joins-same js = flat-same (λ j. each_edge (join_arc_kept told n j)) (join_arcs h cells ds n) js
      (λ j. edges-same (join_arc_kept told n j) (join_arc_at h cells ds n j)
      (λ e. ap (λ r. arc_of (bit_apart n j.from e) (bit_apart n j.to e) (unwrap_or r no_delay)) (at-ends h cells ds edges (join_into j.to) (told_at told.joins.items j.to) e (are.joins j.to))))

  module _ (l : ℕ) where
    abbrev k : ℕ
    k = input_count (leaf_cell h cells l)

    abbrev c : ℕ
    c = (leaf_at h l).cell

    pin-same : is_storage (leaf_cell h cells l) ≡ false → (default : ℤ × ℤ) (i o : ℕ) →
        pin_arcs_kept told senses (leaf_kept h cells n l) default i o ≡ pin_arcs h cells (sense_of senses cells) ds n l default i (k + o)
    pin-same gate default i o =
        map-same (gate_arc_kept told (leaf_kept h cells n l) default i o) (gate_arc_at h cells ds n l default i (k + o)) (transitions_of (sense_at senses c i o))
        (λ t. ap (λ r. arc_of (bit_apart n (pin_bit h l i) t.from) (bit_apart n (pin_bit h l (k + o)) t.to) (unwrap_or r default))
        (at-transition h cells ds edges (path_on l i (k + o)) (path_told told (l, i, k + o)) t.from t.to (are.gates l i (k + o) gate)))
        ∙ ap (λ s. map (gate_arc_at h cells ds n l default i (k + o)) (transitions_of s)) (sense-same senses cells c i k o refl)

    gate-same : is_storage (leaf_cell h cells l) ≡ false → (default : ℤ × ℤ) →
        gate_arcs_kept told senses (leaf_kept h cells n l) default ≡ gate_arcs_apart h cells (sense_of senses cells) ds n l (leaf_cell h cells l) default
    gate-same gate default =
        flat-same (row_arcs_kept told senses (leaf_kept h cells n l) default) (λ i. flat_map (pin_arcs h cells (sense_of senses cells) ds n l default i) (output_numbers (leaf_cell h cells l))) (input_numbers (leaf_cell h cells l))
        (λ i. outputs-shifted (pin_arcs h cells (sense_of senses cells) ds n l default i) (pin_arcs_kept told senses (leaf_kept h cells n l) default i) k (output_count (leaf_cell h cells l)) (pin-same gate default i))

    output-same : (number o : ℕ) → output_arcs_kept senses (leaf_kept h cells n l) number o ≡ output_pin_arcs h (sense_of senses cells) n l number (k + o)
    output-same number o = ap (λ s. map (output_arc_kept (leaf_kept h cells n l) number o) (transitions_of s)) (sense-same senses cells c 0 k o refl)

    stored-same : (number : ℕ) → stored_arcs_kept senses (leaf_kept h cells n l) number ≡ stored_arcs h (sense_of senses cells) n l number (leaf_cell h cells l)
    stored-same number =
        ap (λ xs. data_arcs h n l number ++ xs)
        (outputs-shifted (output_pin_arcs h (sense_of senses cells) n l number) (output_arcs_kept senses (leaf_kept h cells n l) number) k (output_count (leaf_cell h cells l)) (output-same number))

    leaf-by : (cell : Cell) → leaf_cell h cells l ≡ cell →
        leaf_arcs_kept told senses (leaf_kept h cells n l) (number_in h cells l) cell ≡ leaf_arcs_apart h cells (sense_of senses cells) ds n l cell
    leaf-by (Gate inputs outputs min max) is = gate-same (ap is_storage is) (min, max) ∙ ap (λ x. gate_arcs_apart h cells (sense_of senses cells) ds n l x (min, max)) is
    leaf-by (Clock input output invert ignored) is = refl
    leaf-by (Latch pin_d pin_g high outputs ignored setup hold has_hold dq_min dq_max cq_min cq_max has_cq width) is =
        stored-same (number_in h cells l) ∙ ap (stored_arcs h (sense_of senses cells) n l (number_in h cells l)) is
    leaf-by (Flop pin_d pin_clock rising outputs ignored setup hold has_hold cq_min cq_max width) is =
        stored-same (number_in h cells l) ∙ ap (stored_arcs h (sense_of senses cells) n l (number_in h cells l)) is

    pub leaf-same : leaf_arcs_in told senses h cells n l ≡ leaf_arcs_apart h cells (sense_of senses cells) ds n l (leaf_cell h cells l)
    leaf-same = leaf-by (leaf_cell h cells l) refl

  outputs-same : (first : ℕ) (xs : List (Listed × ℕ)) → output_arcs_of told n first xs ≡ output_arcs_apart h cells ds n first xs
  outputs-same first [] = refl
  outputs-same first (x ∷ xs) =
      ap (λ l. l ++ output_arcs_of told n (first + 1) xs)
      (edges-same (port_arc_kept told n first x.1) (port_arc_at h cells ds n first x)
      (λ e. ap (λ r. arc_of (bit_apart n x.1 e) (input_of (at_edge first e)) (unwrap_or r no_delay)) (at-ends h cells ds edges (arcs_from x.1) (told_at told.ports.items x.1) e (are.ports x.1))))
      ∙ ap (λ l. each_edge (port_arc_at h cells ds n first x) ++ l) (outputs-same (first + 1) xs)

-- all arcs, list by list
pub arcs-joined : (told : Told) (senses : List (List (List Transitions))) (h : Hierarchy) (cells : CellTable) (s n k : ℕ) (joins : List Join) (ins outs : List Listed) (xs ys : List ListedBit) (a b c d : List TimingArc) →
    s ≡ length (storage h cells) → n ≡ s + length xs + length ys → k ≡ s + length xs → joins ≡ h.joins →
    a ≡ flat_map (λ j. each_edge (join_arc_kept told n j)) joins → b ≡ a ++ flat_map (leaf_arcs_in told senses h cells n) (all_leaves h) →
    c ≡ b ++ input_arcs_apart n s (map (with_port ins) xs) → d ≡ c ++ output_arcs_of told n k (map (with_port outs) ys) →
    d ≡ arcs_kept told senses h cells (map (with_port ins) xs) (map (with_port outs) ys)
arcs-joined told senses h cells s n k joins ins outs xs ys a b c d stored many first same e1 e2 e3 e4 = rw (e4, e3, e2, e1, same, first, many, stored, length-map xs (with_port ins), length-map ys (with_port outs)) refl

-- these are the arcs of the design
pub arcs-same : (h : Hierarchy) (cells : CellTable) (ds : List EdgeDelay) → All HasEdges ds → (senses : List (List (List Transitions))) (told : Told) → AreTold h cells ds told → (ins outs : List (Listed × ℕ)) →
    arcs_kept told senses h cells ins outs ≡ arcs_over h cells (sense_of senses cells) ds ins outs
arcs-same h cells ds edges senses told are ins outs =
    let s : ℕ = length (storage h cells) in
    let n : ℕ = s + length ins + length outs in
    let leaves = flat-same (leaf_arcs_in told senses h cells n) (λ l. leaf_arcs_apart h cells (sense_of senses cells) ds n l (leaf_cell h cells l)) (all_leaves h) (leaf-same h cells ds edges senses told are n) in
    rw (joins-same h cells ds edges senses told are n h.joins, leaves, outputs-same h cells ds edges senses told are n (s + length ins) outs) refl
