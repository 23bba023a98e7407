-- How many elements and arcs the design has.
use Rattle.std.proofs.Common.{◌≡◌, ℕ, ◌+◌, ◌*◌, ℤ, List, [], ◌∷◌, ◌++◌, flat_map, length, sum_by, refl, ap, ◌∙◌, arith, length-append}
use Rattle.std.specs.List.{range_with_len}
use Rattle.std.proofs.lemmas.List.{length-map}
use Rattle.std.proofs.lemmas.List.Sums.{sum_by-append}
use Rattle.mintc_cells.specs.declared.cell.Cell.{Cell}
use Rattle.mintc_cells.specs.declared.cell.Cell.TheVariants.{Gate, Latch, Flop, Clock}
use Rattle.mintc_clock.specs.declared.clock.Listed.{Listed}
use Rattle.mintc_flatten_hierarchy.specs.declared.hierarchy.Hierarchy.{Hierarchy}
use Rattle.mintc_flatten_hierarchy.specs.Shape.{CellTable}
use Rattle.mintc_senses.specs.Senses.{sense_at}
use Rattle.mintc_senses_expressions.specs.declared.transitions.Transitions.{Transitions}
use Rattle.mintc_annotate_resolve.specs.Pins.{leaf_at, leaf_cell, all_leaves, input_count}
use Rattle.mintc_annotate.specs.Made.{number_in}
use Rattle.mintc_annotate.specs.Phases.{storage}
use Rattle.mintc_edges.specs.declared.edge.Edge.{Edge}
use Rattle.mintc_edges.specs.declared.told.Told.{Told}
use Rattle.mintc_edges.specs.Edges.{each_edge, transitions_of}
use Rattle.mintc_edges.specs.Numbers.{sense_of}
use Rattle.mintc_edges.specs.Counts.{pin_arc_count, arc_count, leaf_arc_count, row_count, gate_count}
use Rattle.mintc_edges.specs.Apart.{input_arcs_apart}
use Rattle.mintc_edges.specs.Kept.{join_arc_kept, gate_arc_kept, pin_arcs_kept, row_arcs_kept, gate_arcs_kept, output_arc_kept, output_arcs_kept, stored_arcs_kept, leaf_arcs_kept, leaf_kept, leaf_arcs_in, output_arcs_of}
use Rattle.mintc_edges.specs.Whole.{arcs_kept}
use Rattle.mintc_edges.proofs.CountLaws.{sum_same, row_is, gate_is}

-- two for each
pub twice-long : {X Y : Type 0} (f : X → Edge → Y) (xs : List X) → length (flat_map (λ x. each_edge (f x)) xs) ≡ 2 * length xs
twice-long f [] = omega arith
twice-long f (x ∷ xs) = let rest = twice-long f xs in omega (arith, rest)

flat-long : {X : Type 0} (f : ℕ → List X) (xs : List ℕ) → length (flat_map f xs) ≡ sum_by (λ x. length (f x)) xs
flat-long f [] = refl
flat-long f (x ∷ xs) = let rest = flat-long f xs in let here = length-append (f x) (flat_map f xs) in let more = sum_by-append (λ y. length (f y)) (x ∷ []) xs in omega (arith, rest, here, more)

pub inputs-long : (n k : ℕ) (xs : List (Listed × ℕ)) → length (input_arcs_apart n k xs) ≡ 2 * length xs
inputs-long n k [] = omega arith
inputs-long n k (x ∷ xs) = let rest = inputs-long n (k + 1) xs in omega (arith, rest)

pub outputs-long : (told : Told) (n k : ℕ) (xs : List (Listed × ℕ)) → length (output_arcs_of told n k xs) ≡ 2 * length xs
outputs-long told n k [] = omega arith
outputs-long told n k (x ∷ xs) = let rest = outputs-long told n (k + 1) xs in omega (arith, rest)

module _ (told : Told) (senses : List (List (List Transitions))) (h : Hierarchy) (cells : CellTable) (n : ℕ) where
  module _ (l : ℕ) where
    abbrev c : ℕ
    c = (leaf_at h l).cell

    row-long : (default : ℤ × ℤ) (i : ℕ) → length (row_arcs_kept told senses (leaf_kept h cells n l) default i) ≡ row_count senses c i (leaf_kept h cells n l).outputs
    row-long default i =
        flat-long (pin_arcs_kept told senses (leaf_kept h cells n l) default i) (range_with_len 0 (leaf_kept h cells n l).outputs)
        ∙ sum_same (λ k. length (pin_arcs_kept told senses (leaf_kept h cells n l) default i k)) (λ k. length (transitions_of (sense_at senses c i k))) (range_with_len 0 (leaf_kept h cells n l).outputs)
        (λ k. length-map (transitions_of (sense_at senses c i k)) (gate_arc_kept told (leaf_kept h cells n l) default i k))

    gate-long : (default : ℤ × ℤ) → length (gate_arcs_kept told senses (leaf_kept h cells n l) default) ≡ gate_count senses c (leaf_kept h cells n l).inputs (leaf_kept h cells n l).outputs
    gate-long default =
        flat-long (row_arcs_kept told senses (leaf_kept h cells n l) default) (range_with_len 0 (leaf_kept h cells n l).inputs)
        ∙ sum_same (λ i. length (row_arcs_kept told senses (leaf_kept h cells n l) default i)) (λ i. row_count senses c i (leaf_kept h cells n l).outputs) (range_with_len 0 (leaf_kept h cells n l).inputs) (row-long default)

    stored-long : (number : ℕ) → length (stored_arcs_kept senses (leaf_kept h cells n l) number) ≡ 2 + row_count senses c 0 (leaf_kept h cells n l).outputs
    stored-long number =
        let listed = flat-long (output_arcs_kept senses (leaf_kept h cells n l) number) (range_with_len 0 (leaf_kept h cells n l).outputs) in
        let same = sum_same (λ k. length (output_arcs_kept senses (leaf_kept h cells n l) number k)) (λ k. length (transitions_of (sense_at senses c 0 k))) (range_with_len 0 (leaf_kept h cells n l).outputs)
        (λ k. length-map (transitions_of (sense_at senses c 0 k)) (output_arc_kept (leaf_kept h cells n l) number k)) in
        omega (arith, listed, same)

    leaf-by : (cell : Cell) → leaf_cell h cells l ≡ cell → length (leaf_arcs_kept told senses (leaf_kept h cells n l) (number_in h cells l) cell) ≡ arc_count (sense_of senses cells) c cell
    leaf-by (Gate inputs outputs min max) is = gate-long (min, max) ∙ gate_is senses cells c ∙ ap (λ (x : Cell). sum_by (pin_arc_count (sense_of senses cells) c x) (range_with_len 0 (input_count x))) is
    leaf-by (Clock input output invert ignored) is = refl
    leaf-by (Latch pin_d pin_g high outputs ignored setup hold has_hold dq_min dq_max cq_min cq_max has_cq width) is =
        stored-long (number_in h cells l) ∙ ap (λ k. 2 + k) (row_is senses cells c 0) ∙ ap (λ x. 2 + pin_arc_count (sense_of senses cells) c x 0) is
    leaf-by (Flop pin_d pin_clock rising outputs ignored setup hold has_hold cq_min cq_max width) is =
        stored-long (number_in h cells l) ∙ ap (λ k. 2 + k) (row_is senses cells c 0) ∙ ap (λ x. 2 + pin_arc_count (sense_of senses cells) c x 0) is

  leaves-long : length (flat_map (leaf_arcs_in told senses h cells n) (all_leaves h)) ≡ leaf_arc_count h cells (sense_of senses cells)
  leaves-long =
      flat-long (leaf_arcs_in told senses h cells n) (all_leaves h)
      ∙ sum_same (λ l. length (leaf_arcs_in told senses h cells n l)) (λ l. arc_count (sense_of senses cells) (leaf_at h l).cell (leaf_cell h cells l)) (all_leaves h) (λ l. leaf-by l (leaf_cell h cells l) refl)

pub arcs-long : (told : Told) (senses : List (List (List Transitions))) (h : Hierarchy) (cells : CellTable) (ins outs : List (Listed × ℕ)) →
    length (arcs_kept told senses h cells ins outs) ≡ 2 * (length h.joins + (length ins + length outs)) + leaf_arc_count h cells (sense_of senses cells)
arcs-long told senses h cells ins outs =
    let s : ℕ = length (storage h cells) in
    let n : ℕ = s + length ins + length outs in
    let joins = flat_map (λ j. each_edge (join_arc_kept told n j)) h.joins in
    let leaves = flat_map (leaf_arcs_in told senses h cells n) (all_leaves h) in
    omega (
      arith,
      length-append (joins ++ leaves ++ input_arcs_apart n s ins) (output_arcs_of told n (s + length ins) outs),
      length-append (joins ++ leaves) (input_arcs_apart n s ins),
      length-append joins leaves,
      twice-long (join_arc_kept told n) h.joins,
      leaves-long told senses h cells n,
      inputs-long n s ins,
      outputs-long told n (s + length ins) outs,
    )
