-- Designs of one netlist, one cell description and one clock differ in numbers alone.
use Rattle.std.proofs.Common.{◌≡◌, ℕ, ◌+◌, false, true, List, [], ◌∷◌, ◌++◌, map, flat_map, length, None, refl, sym, ap, ◌∙◌, subst}
use Rattle.std.specs.Prelude.{zip}
use Rattle.std.proofs.lemmas.List.{map-append, length-map}
use Rattle.mintc_text.specs.Refusals.{over_limit}
use Rattle.mintc_text.specs.declared.limits.Most.{Most}
use Rattle.mintc_timing.specs.declared.parts.Element.{Element}
use Rattle.mintc_timing.specs.declared.parts.TimingArc.{TimingArc}
use Rattle.mintc_timing.specs.Design.{Design}
use Rattle.mintc_timing.specs.Limits.{quantities, limit_of}
use Rattle.mintc_timing.specs.Paths.{input_of}
use Rattle.mintc_verilog.specs.Laws.{HaveOneNetlist}
use Rattle.mintc_sdf.specs.declared.delays.Delay.{Delay}
use Rattle.mintc_cells.specs.declared.cell.Cell.{Cell}
use Rattle.mintc_cells.specs.declared.cell.Cell.TheVariants.{Gate, Latch, Flop, Clock}
use Rattle.mintc_cells.specs.Laws.{CellsAreDetermined}
use Rattle.mintc_clock.specs.declared.clock.Clock as clock_type
use Rattle.mintc_clock.specs.declared.clock.Listed.{Listed}
use Rattle.mintc_clock.specs.Laws.{ClocksAreDetermined}
use Rattle.mintc_flatten_hierarchy.specs.declared.hierarchy.Hierarchy.{Hierarchy}
use Rattle.mintc_flatten_hierarchy.specs.Sources.{source_of}
use Rattle.mintc_flatten_hierarchy.specs.Shape.{CellTable}
use Rattle.mintc_annotate_resolve.specs.Pins.{all_names, all_leaves, leaf_cell, leaf_path, dotted, input_numbers, output_numbers}
use Rattle.mintc_annotate_resolve.specs.Resolution.{range_of, said}
use Rattle.mintc_annotate.specs.Phases.{storage}
use Rattle.mintc_annotate.specs.Made.{RangeOf, bits_of, element_of, port_element, storage_elements, elements_with, arc_of, no_delay, inner_bit, join_arc, gate_arc, leaf_arcs, input_arcs, output_arcs, arcs_with, design_with, design_made, IsAnnotated}
use Rattle.mintc_annotate.specs.Laws.{DesignsAreDetermined}
use Rattle.mintc_timing.specs.Numbers.{unnumbered, undelayed, DifferInNumbers}
use Rattle.mintc_build.specs.Laws.{CornersDifferInNumbers}
use Rattle.mintc_build.proofs.SharedFilesLaws.{one_netlist, one_hierarchy, moved}
use Rattle.mintc_build.proofs.FilesLaws.{moved_design}

-- the laws of the texts and of what is made of them
pub record AreCornerLaws : Type 0 where
  pub one_netlist : HaveOneNetlist
  pub one_cells : CellsAreDetermined
  pub one_clock : ClocksAreDetermined
  pub one_design : DesignsAreDetermined

-- lists whose items are alike, part by part
map_alike : {X A B : Type 0} (u : A → B) (f g : X → A) (xs : List X) → ((x : X) → u (f x) ≡ u (g x)) → map u (map f xs) ≡ map u (map g xs)
map_alike u f g [] same = refl
map_alike u f g (x ∷ xs) same = ap (λ b. b ∷ map u (map f xs)) (same x) ∙ ap (λ bs. u (g x) ∷ bs) (map_alike u f g xs same)

append_alike : {A B : Type 0} (u : A → B) (xs ys zs ws : List A) → map u xs ≡ map u ys → map u zs ≡ map u ws → map u (xs ++ zs) ≡ map u (ys ++ ws)
append_alike u xs ys zs ws front back = map-append u xs zs ∙ ap (λ bs. bs ++ map u zs) front ∙ ap (λ bs. map u ys ++ bs) back ∙ sym (map-append u ys ws)

flat_alike : {X A B : Type 0} (u : A → B) (f g : X → List A) (xs : List X) → ((x : X) → map u (f x) ≡ map u (g x)) → map u (flat_map f xs) ≡ map u (flat_map g xs)
flat_alike u f g [] same = refl
flat_alike u f g (x ∷ xs) same = append_alike u (f x) (g x) (flat_map f xs) (flat_map g xs) (same x) (flat_alike u f g xs same)

length_alike : {A B : Type 0} (u : A → B) (xs ys : List A) → map u xs ≡ map u ys → length xs ≡ length ys
length_alike u xs ys same = sym (length-map xs u) ∙ ap length same ∙ length-map ys u

-- ---- elements, whatever the ranges
element_alike : (r q : RangeOf) (name : List ℕ) (l phase : ℕ) (cell : Cell) → unnumbered (element_of r name l phase cell) ≡ unnumbered (element_of q name l phase cell)
element_alike r q name l phase (Latch a b c d e f g i j k m n o p) = refl
element_alike r q name l phase (Flop a b c d e f g i j k m) = refl
element_alike r q name l phase (Gate a b c d) = refl
element_alike r q name l phase (Clock a b c d) = refl

stored_alike : (h : Hierarchy) (cells : CellTable) (r q : RangeOf) (phases : List ℕ) → map unnumbered (storage_elements h cells r phases) ≡ map unnumbered (storage_elements h cells q phases)
stored_alike h cells r q phases =
    map_alike unnumbered (λ x. element_of r (dotted (leaf_path h x.0)) x.0 x.1 (leaf_cell h cells x.0)) (λ x. element_of q (dotted (leaf_path h x.0)) x.0 x.1 (leaf_cell h cells x.0)) (zip (storage h cells) phases)
    (λ x. element_alike r q (dotted (leaf_path h x.0)) x.0 x.1 (leaf_cell h cells x.0))

elements_alike : (h : Hierarchy) (cells : CellTable) (r q : RangeOf) (phases : List ℕ) (ins outs : List (Listed × ℕ)) → map unnumbered (elements_with h cells r phases ins outs) ≡ map unnumbered (elements_with h cells q phases ins outs)
elements_alike h cells r q phases ins outs =
    let ports : List (Listed × ℕ) → List Element = map (port_element (all_names h)) in
    append_alike unnumbered (storage_elements h cells r phases ++ ports ins) (storage_elements h cells q phases ++ ports ins) (ports outs) (ports outs)
    (append_alike unnumbered (storage_elements h cells r phases) (storage_elements h cells q phases) (ports ins) (ports ins) (stored_alike h cells r q phases) refl) refl

-- ---- arcs, whatever the ranges
leaf_alike : (h : Hierarchy) (cells : CellTable) (r q : RangeOf) (n l : ℕ) (cell : Cell) → map undelayed (leaf_arcs h cells r n l cell) ≡ map undelayed (leaf_arcs h cells q n l cell)
leaf_alike h cells r q n l (Gate a b c d) =
    let outputs : List ℕ = output_numbers (Gate a b c d) in
    flat_alike undelayed (λ i. map (gate_arc h r n l (c, d) i) outputs) (λ i. map (gate_arc h q n l (c, d) i) outputs) (input_numbers (Gate a b c d)) (λ i.
    map_alike undelayed (gate_arc h r n l (c, d) i) (gate_arc h q n l (c, d) i) outputs (λ o. refl))
leaf_alike h cells r q n l (Latch a b c d e f g i j k m o p s) = refl
leaf_alike h cells r q n l (Flop a b c d e f g i j k m) = refl
leaf_alike h cells r q n l (Clock a b c d) = refl

outputs_alike : (r q : RangeOf) (n e : ℕ) (xs : List (Listed × ℕ)) → map undelayed (output_arcs r n e xs) ≡ map undelayed (output_arcs q n e xs)
outputs_alike r q n e [] = refl
outputs_alike r q n e (x ∷ xs) = ap (λ arcs. arc_of (inner_bit n x.1) (input_of e) no_delay ∷ arcs) (outputs_alike r q n (e + 1) xs)

arcs_alike : (h : Hierarchy) (cells : CellTable) (r q : RangeOf) (ins outs : List (Listed × ℕ)) → map undelayed (arcs_with h cells r ins outs) ≡ map undelayed (arcs_with h cells q ins outs)
arcs_alike h cells r q ins outs =
    let stored : ℕ = length (storage h cells) in
    let n : ℕ = stored + length ins + length outs in
    let joins : RangeOf → List TimingArc = λ ranges. map (join_arc ranges n) h.joins in
    let leaves : RangeOf → List TimingArc = λ ranges. flat_map (λ l. leaf_arcs h cells ranges n l (leaf_cell h cells l)) (all_leaves h) in
    let inputs : List TimingArc = input_arcs n stored ins in
    let outputs : RangeOf → List TimingArc = λ ranges. output_arcs ranges n (stored + length ins) outs in
    append_alike undelayed (joins r ++ leaves r ++ inputs) (joins q ++ leaves q ++ inputs) (outputs r) (outputs q)
    (append_alike undelayed (joins r ++ leaves r) (joins q ++ leaves q) inputs inputs
    (append_alike undelayed (joins r) (joins q) (leaves r) (leaves q)
    (map_alike undelayed (join_arc r n) (join_arc q n) h.joins (λ j. refl))
    (flat_alike undelayed (λ l. leaf_arcs h cells r n l (leaf_cell h cells l)) (λ l. leaf_arcs h cells q n l (leaf_cell h cells l)) (all_leaves h) (λ l. leaf_alike h cells r q n l (leaf_cell h cells l)))) refl)
    (outputs_alike r q n (stored + length ins) outs)

-- ---- designs
ranges_alike : (h : Hierarchy) (cells : CellTable) (clock : clock_type.Clock) (r q : RangeOf) (phases : List ℕ) → DifferInNumbers (design_with h cells clock r phases) (design_with h cells clock q phases)
ranges_alike h cells clock r q phases = record {
  phases = refl;
  elements = elements_alike h cells q r phases (bits_of h false clock.inputs) (bits_of h true clock.outputs);
  inner = refl;
  arcs = arcs_alike h cells q r (bits_of h false clock.inputs) (bits_of h true clock.outputs);
  bounds = refl;
}

-- both pass a limit or neither does
limits_alike : (most : Most) (d e : Design) → DifferInNumbers d e → limit_of most e ≡ limit_of most d
limits_alike most d e alike =
    let inner = ap length alike.inner in
    let phases = ap length alike.phases in
    let elements = length_alike unnumbered e.elements d.elements alike.elements in
    let arcs = length_alike undelayed e.arcs d.arcs alike.arcs in
    let bounds = ap length alike.bounds in
    ap (λ n. over_limit (quantities most n (length e.phases) (length e.elements) (length e.arcs) (length e.bounds))) inner
    ∙ ap (λ n. over_limit (quantities most (length d.inner) n (length e.elements) (length e.arcs) (length e.bounds))) phases
    ∙ ap (λ n. over_limit (quantities most (length d.inner) (length d.phases) n (length e.arcs) (length e.bounds))) elements
    ∙ ap (λ n. over_limit (quantities most (length d.inner) (length d.phases) (length d.elements) n (length e.bounds))) arcs
    ∙ ap (λ n. over_limit (quantities most (length d.inner) (length d.phases) (length d.elements) (length d.arcs) n)) bounds

-- With the phases of the other design the first one's delays make a design too, and so the first.
annotated_alike : DesignsAreDetermined → (most : Most) (h : Hierarchy) (cells : CellTable) (clock : clock_type.Clock) (ds es : List Delay) (design other : Design) → IsAnnotated most h cells clock ds design → IsAnnotated most h cells clock es other → DifferInNumbers design other
annotated_alike one most h cells clock ds es design other a b =
    let phases : List ℕ = b.whole.phases in
    let here : Design = design_made h cells clock ds phases in
    let there : Design = design_made h cells clock es phases in
    let alike : DifferInNumbers here there = ranges_alike h cells clock (range_of (said h cells ds)) (range_of (said h cells es)) phases in
    let same : other ≡ there = b.whole.made in
    let within : limit_of most here ≡ None = sym (limits_alike most here there alike) ∙ sym (ap (limit_of most) same) ∙ b.within in
    let made : IsAnnotated most h cells clock ds here = record { whole = record { ports = a.whole.ports; annotates = a.whole.annotates; phases = phases; traced = b.whole.traced; made = refl }; within = within } in
    subst (λ (d : Design). DifferInNumbers d other) (one most h cells clock ds here design made a) (subst (DifferInNumbers here) (sym same) alike)

-- ---- files
pub corners_lem : AreCornerLaws → CornersDifferInNumbers
corners_lem law most v d e c k design other a b =
    let netlist = one_netlist law.one_netlist v a.netlist b.netlist a.read.netlist_read b.read.netlist_read in
    let cells = law.one_cells c a.cells b.cells a.read.cells_read b.read.cells_read in
    let clock = law.one_clock k a.clock b.clock a.read.clock_read b.read.clock_read in
    let shape = one_hierarchy most (source_of a.cells a.netlist.modules) a.clock.top a.hierarchy b.hierarchy a.flat (moved most a.netlist b.netlist a.cells b.cells a.clock b.clock b.hierarchy netlist cells clock b.flat) in
    annotated_alike law.one_design most a.hierarchy a.cells a.clock a.delays b.delays design other a.annotated
    (moved_design most a.hierarchy b.hierarchy a.cells b.cells a.clock b.clock b.delays b.delays other shape cells clock refl b.annotated)
