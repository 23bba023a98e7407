-- The design by the table is the one of the delays.
use Rattle.std.proofs.Common.{◌≡◌, ℕ, Bool, true, false, cond, List, [], ◌∷◌, ◌++◌, filter, flat_map, zip, All, refl, ap, ◌∙◌}
use Rattle.std.proofs.lemmas.List.Elements.{All-nil, All-cons, All-head, All-tail}
use Rattle.mintc_clock.specs.declared.clock.Clock.{Clock}
use Rattle.mintc_flatten_hierarchy.specs.declared.hierarchy.Hierarchy.{Hierarchy}
use Rattle.mintc_flatten_hierarchy.specs.Shape.{CellTable}
use Rattle.mintc_sdf_edges.specs.declared.delays.EdgeDelay.{EdgeDelay}
use Rattle.mintc_senses_expressions.specs.declared.transitions.Transitions.{Transitions}
use Rattle.mintc_annotate_resolve.specs.Pins.{leaf_cell, all_leaves, is_storage}
use Rattle.mintc_annotate.specs.Made.{bits_of}
use Rattle.mintc_annotate.specs.Phases.{storage}
use Rattle.mintc_edges.specs.declared.told.Told.{Told}
use Rattle.mintc_edges.specs.Edges.{each_edge}
use Rattle.mintc_edges.specs.Numbers.{sense_of}
use Rattle.mintc_edges.specs.Told.{AreTold}
use Rattle.mintc_edges.specs.Apart.{stored_element, port_elements, elements_apart, design_apart}
use Rattle.mintc_edges.specs.Whole.{leaf_elements_kept, elements_kept, design_kept}
use Rattle.mintc_edges.proofs.AlongLaws.{stored-same}
use Rattle.mintc_edges.proofs.ArcLaws.{arcs-same}
use Rattle.mintc_sdf_edges.specs.Laws.{HasEdges}

all-pass : (p : ℕ → Bool) (xs : List ℕ) → All (λ x. p x ≡ true) (filter p xs)
all-pass p [] = All-nil (λ x. p x ≡ true)
all-pass p (x ∷ xs) = by (p x) refl (all-pass p xs)
  where
    by : (b : Bool) → p x ≡ b → All (λ x. p x ≡ true) (filter p xs) → All (λ x. p x ≡ true) (cond b (x ∷ filter p xs) (filter p xs))
    by true e rest = All-cons (λ x. p x ≡ true) x (filter p xs) e rest
    by false e rest = rest

zip-same : {Y Z : Type 0} (p : ℕ → Bool) (f g : ℕ × Y → List Z) → ((x : ℕ) (y : Y) → p x ≡ true → f (x, y) ≡ g (x, y)) → (xs : List ℕ) (ys : List Y) → All (λ x. p x ≡ true) xs → flat_map f (zip xs ys) ≡ flat_map g (zip xs ys)
zip-same p f g same [] ys all = refl
zip-same p f g same (x ∷ xs) [] all = refl
zip-same p f g same (x ∷ xs) (y ∷ ys) all =
    ap (λ l. l ++ flat_map f (zip xs ys)) (same x y (All-head (λ x. p x ≡ true) x xs all)) ∙ ap (λ l. g (x, y) ++ l) (zip-same p f g same xs ys (All-tail (λ x. p x ≡ true) x xs all))

module _ (h : Hierarchy) (cells : CellTable) (ds : List EdgeDelay) (edges : All HasEdges ds) (senses : List (List (List Transitions))) (told : Told) (are : AreTold h cells ds told) (clock : Clock) (phases : List ℕ) where
  elements-same : elements_kept told senses h cells clock phases ≡ elements_apart h cells (sense_of senses cells) clock ds phases
  elements-same =
      ap (λ l. l ++ flat_map (port_elements h) (bits_of h false clock.inputs) ++ flat_map (port_elements h) (bits_of h true clock.outputs))
      (zip-same (λ l. is_storage (leaf_cell h cells l)) (leaf_elements_kept told senses h cells) (λ x. each_edge (stored_element h cells (sense_of senses cells) ds x.0 x.1))
      (λ l phase stores. stored-same h cells ds edges senses told are l phase stores) (storage h cells) phases (all-pass (λ l. is_storage (leaf_cell h cells l)) (all_leaves h)))

  pub design-same : design_kept told senses h cells clock phases ≡ design_apart h cells (sense_of senses cells) clock ds phases
  design-same = rw (elements-same, arcs-same h cells ds edges senses told are (bits_of h false clock.inputs) (bits_of h true clock.outputs)) refl
