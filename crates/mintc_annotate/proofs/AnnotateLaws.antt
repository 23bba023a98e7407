-- The design by what is gathered for it.
use Rattle.std.proofs.Common.{◌≡◌, ◌≤◌, ◌+◌, ◌*◌, ℕ, suc, Bool, true, false, cond, List, [], ◌∷◌, ◌++◌, length, map, flat_map, zip, sum_by, Option, Some, None, option_map, unwrap_or, Result, Ok, Err, MatchResult, refl, sym, ap, ◌∙◌, subst, arith, length-append}
use Rattle.std.specs.Prelude.{nat_lt}
use Rattle.std.specs.List.{range_with_len}
use Rattle.std.proofs.lemmas.Bool.Decides.{nat_tests}
use Rattle.std.proofs.lemmas.List.{length-map}
use Rattle.std.proofs.lemmas.List.FromFn.{length-range_with_len}
use Rattle.std.proofs.lemmas.List.Sums.{sum_by-append, length-filter, count_by-le-length}
use Rattle.std.proofs.lemmas.Slice.Zip.{AllZip-long}
use Rattle.mintc_text.specs.Refusals.{over_limit}
use Rattle.mintc_text.specs.declared.limits.Most.{Most}
use Rattle.mintc_text.specs.declared.limits.TheConstants.{MOST_LEAVES}
use Rattle.mintc_text.specs.Stops.{StopsAt}
use Rattle.mintc_text.specs.declared.refusals.Kind.{Kind}
use Rattle.mintc_text.specs.declared.refusals.Refusal.{Refusal}
use Rattle.mintc_text.specs.declared.refusals.Refusal.TheVariants as refusal
use Rattle.mintc_text.specs.declared.refusals.Stop.{Stop}
use Rattle.mintc_text.specs.declared.refusals.Stop.TheVariants as stop
use Rattle.mintc_cells.specs.declared.cell.Cell.{Cell}
use Rattle.mintc_cells.specs.declared.cell.Cell.TheVariants.{Gate, Latch, Flop, Clock}
use Rattle.mintc_clock.specs.declared.clock.Clock as clock_type
use Rattle.mintc_clock.specs.declared.clock.Listed.{Listed}
use Rattle.mintc_sdf.specs.declared.delays.Delay.{Delay}
use Rattle.mintc_flatten_hierarchy.specs.declared.hierarchy.Hierarchy.{Hierarchy}
use Rattle.mintc_flatten_hierarchy.specs.Shape.{CellTable}
use Rattle.mintc_timing.specs.declared.parts.TimingArc.{TimingArc}
use Rattle.mintc_timing.specs.Design.{Design}
use Rattle.mintc_timing.specs.Limits.{quantities, limit_of}
use Rattle.mintc_annotate_resolve.specs.Pins.{leaf_at, leaf_cell, all_leaves, inner_name, leaf_path, dotted, input_count, output_numbers}
use Rattle.mintc_annotate_delays.specs.Ranges.{look}
use Rattle.mintc_annotate_resolve.specs.Resolution.{Target, said, range_of, first_refusal, join_into, path_on, arcs_from, dq_of, cq_of, setup_of, hold_of, width_of}
use Rattle.mintc_annotate.specs.ClockPorts.{has_ports, first_false, IsPortRefusal}
use Rattle.mintc_annotate.specs.Phases.{storage, phase_spots, IsUntraced, IsPhaseOf}
use Rattle.mintc_annotate.specs.declared.gathering.Gathered.{Gathered}
use Rattle.mintc_annotate.specs.Counts.{arc_count, leaf_arc_count}
use Rattle.mintc_annotate.specs.Gathered.{AreGathered, IsResolved, design_of_gathered}
use Rattle.mintc_annotate.specs.Made.{RangeOf, bits_of, element_of, arc_of, no_delay, inner_bit, join_arc, gate_arc, leaf_arcs, number_in, input_arcs, output_arcs, arcs_with, design_with, IsMade, IsAnnotated, IsAnnotateRefusal, no_port, annotates_nothing, no_phase}
use Rattle.mintc_annotate.proofs.SharedTraceLaws.{stored}
use Rattle.mintc_annotate.proofs.PartLimits.{elements_count}

-- ---- refusals
pub stops_port : (h : Hierarchy) (cells : CellTable) (clock : clock_type.Clock) (delays : List Delay) (s : Stop) → StopsAt (IsPortRefusal (has_ports h clock)) s → StopsAt (λ r. (most : Most) → IsAnnotateRefusal most h cells clock delays r) s
stops_port h cells clock delays (stop.Refused r) port = λ most. no_port port
stops_port h cells clock delays stop.OutOfMemory port = tt

pub stops_resolving : (h : Hierarchy) (cells : CellTable) (clock : clock_type.Clock) (delays : List Delay) (s : Stop) → first_false (has_ports h clock) ≡ None → StopsAt (λ r. first_refusal h cells delays ≡ Some r) s → StopsAt (λ r. (most : Most) → IsAnnotateRefusal most h cells clock delays r) s
stops_resolving h cells clock delays (stop.Refused r) ports annotates = λ most. annotates_nothing ports annotates
stops_resolving h cells clock delays stop.OutOfMemory ports annotates = tt

phase_refusal : (most : Most) (h : Hierarchy) (cells : CellTable) (clock : clock_type.Clock) (delays : List Delay) (r : Refusal) → first_false (has_ports h clock) ≡ None → first_refusal h cells delays ≡ None → IsUntraced h cells (phase_spots h clock) r →
    IsAnnotateRefusal most h cells clock delays r
phase_refusal most h cells clock delays (refusal.NoPhase e) ports annotates untraced = no_phase ports annotates e refl untraced
phase_refusal most h cells clock delays _ ports annotates untraced = absurd untraced

pub stops_phase : (h : Hierarchy) (cells : CellTable) (clock : clock_type.Clock) (delays : List Delay) (s : Stop) → first_false (has_ports h clock) ≡ None → first_refusal h cells delays ≡ None → StopsAt (IsUntraced h cells (phase_spots h clock)) s →
    StopsAt (λ r. (most : Most) → IsAnnotateRefusal most h cells clock delays r) s
stops_phase h cells clock delays (stop.Refused r) ports annotates untraced = λ most. phase_refusal most h cells clock delays r ports annotates untraced
stops_phase h cells clock delays stop.OutOfMemory ports annotates untraced = tt

-- whatever the limits of the run
pub stops_gathering : (most : Most) (h : Hierarchy) (cells : CellTable) (clock : clock_type.Clock) (delays : List Delay) (s : Stop) → StopsAt (λ r. (m : Most) → IsAnnotateRefusal m h cells clock delays r) s → StopsAt (IsAnnotateRefusal most h cells clock delays) s
stops_gathering most h cells clock delays (stop.Refused r) known = known most
stops_gathering most h cells clock delays stop.OutOfMemory known = tt

-- ---- how many
product : {X : Type 0} (f : ℕ → ℕ → X) (ins outs : List ℕ) → length (flat_map (λ i. map (f i) outs) ins) ≡ length ins * length outs
product f [] outs = let e : 0 ≡ 0 * length outs = omega arith in e
product f (i ∷ ins) outs = omega (arith, product f ins outs, length-map outs (f i), length-append (map (f i) outs) (flat_map (λ k. map (f k) outs) ins))

leaf_count : (h : Hierarchy) (cells : CellTable) (ranges : RangeOf) (n l : ℕ) (cell : Cell) → length (leaf_arcs h cells ranges n l cell) ≡ arc_count cell
leaf_count h cells ranges n l (Gate inputs outputs a b) =
    product (gate_arc h ranges n l (a, b)) (range_with_len 0 (length inputs)) (range_with_len (length inputs) (length outputs))
    ∙ ap (λ (m : ℕ). m * length (range_with_len (length inputs) (length outputs))) (length-range_with_len 0 (length inputs)) ∙ ap (λ (m : ℕ). length inputs * m) (length-range_with_len (length inputs) (length outputs))
leaf_count h cells ranges n l (Latch a b c outs d e f g i j k m o p) = let long = length-map (output_numbers (Latch a b c outs d e f g i j k m o p)) (λ q. arc_of (2 * number_in h cells l + 1) (inner_bit n ((leaf_at h l).first_pin + q)) no_delay) in
    let count = length-range_with_len (input_count (Latch a b c outs d e f g i j k m o p)) (length outs) in omega (arith, long, count)
leaf_count h cells ranges n l (Flop a b c outs d e f g i j k) = let long = length-map (output_numbers (Flop a b c outs d e f g i j k)) (λ q. arc_of (2 * number_in h cells l + 1) (inner_bit n ((leaf_at h l).first_pin + q)) no_delay) in
    let count = length-range_with_len (input_count (Flop a b c outs d e f g i j k)) (length outs) in omega (arith, long, count)
leaf_count h cells ranges n l (Clock a b c d) = refl

leaves_count : (h : Hierarchy) (cells : CellTable) (ranges : RangeOf) (n : ℕ) (ls : List ℕ) → length (flat_map (λ l. leaf_arcs h cells ranges n l (leaf_cell h cells l)) ls) ≡ sum_by (λ l. arc_count (leaf_cell h cells l)) ls
leaves_count h cells ranges n [] = refl
leaves_count h cells ranges n (l ∷ ls) =
    omega (
      arith,
      length-append (leaf_arcs h cells ranges n l (leaf_cell h cells l)) (flat_map (λ k. leaf_arcs h cells ranges n k (leaf_cell h cells k)) ls),
      leaf_count h cells ranges n l (leaf_cell h cells l),
      leaves_count h cells ranges n ls,
      sum_by-append (λ k. arc_count (leaf_cell h cells k)) (l ∷ []) ls,
    )

inputs_count : (n e : ℕ) (xs : List (Listed × ℕ)) → length (input_arcs n e xs) ≡ length xs
inputs_count n e [] = refl
inputs_count n e (x ∷ xs) = ap suc (inputs_count n (e + 1) xs)

outputs_count : (ranges : RangeOf) (n e : ℕ) (xs : List (Listed × ℕ)) → length (output_arcs ranges n e xs) ≡ length xs
outputs_count ranges n e [] = refl
outputs_count ranges n e (x ∷ xs) = ap suc (outputs_count ranges n (e + 1) xs)

arcs_count : (h : Hierarchy) (cells : CellTable) (ranges : RangeOf) (ins outs : List (Listed × ℕ)) → length (arcs_with h cells ranges ins outs) ≡ length h.joins + leaf_arc_count h cells + length ins + length outs
arcs_count h cells ranges ins outs =
    let s : ℕ = length (storage h cells) in
    let n : ℕ = s + length ins + length outs in
    let joins : List TimingArc = map (join_arc ranges n) h.joins in
    let leaves : List TimingArc = flat_map (λ l. leaf_arcs h cells ranges n l (leaf_cell h cells l)) (all_leaves h) in
    omega (
      arith,
      length-append (joins ++ leaves ++ input_arcs n s ins) (output_arcs ranges n (s + length ins) outs),
      length-append (joins ++ leaves) (input_arcs n s ins),
      length-append joins leaves,
      length-map h.joins (join_arc ranges n),
      leaves_count h cells ranges n (all_leaves h),
      inputs_count n s ins,
      outputs_count ranges n (s + length ins) outs,
    )

-- the limit of the design is that of its counts
pub limit_counts : (most : Most) (h : Hierarchy) (cells : CellTable) (clock : clock_type.Clock) (ranges : RangeOf) (phases : List ℕ) → length phases ≡ length (storage h cells) →
    limit_of most (design_with h cells clock ranges phases) ≡ over_limit (quantities most (length h.inner) (length clock.phases) (length phases + length (bits_of h false clock.inputs) + length (bits_of h true clock.outputs))
    (length h.joins + leaf_arc_count h cells + length (bits_of h false clock.inputs) + length (bits_of h true clock.outputs)) (length clock.bounds))
limit_counts most h cells clock ranges phases same =
    rw (length-map h.inner (inner_name h), length-map clock.phases (λ p. p.name), elements_count h cells clock ranges phases same, arcs_count h cells ranges (bits_of h false clock.inputs) (bits_of h true clock.outputs), same) refl

third_test : (a b c : Bool) (x y z : Kind × ℕ × ℕ) (rest : Option (Kind × ℕ × ℕ)) (f : Kind × ℕ × ℕ → Refusal) → option_map f (cond a (Some x) (cond b (Some y) (cond c (Some z) rest))) ≡ None → c ≡ false
third_test false false false x y z rest f e = refl
third_test _ _ _ x y z rest f e = absurd (cc)

pub few_elements : (most : Most) (inner phases elements arcs bounds : ℕ) → over_limit (quantities most inner phases elements arcs bounds) ≡ None → elements ≤ most.elements
few_elements most inner phases elements arcs bounds none =
    let test = third_test (nat_lt most.inner inner) (nat_lt 8 phases) (nat_lt most.elements elements) _ _ _ _ _ none in
    grind (arith, nat_tests, test)

-- ---- other ranges that are the same
map_same : {X Y : Type 0} (f g : X → Y) (xs : List X) → ((x : X) → f x ≡ g x) → map f xs ≡ map g xs
map_same f g [] same = refl
map_same f g (x ∷ xs) same = ap (λ y. y ∷ map f xs) (same x) ∙ ap (λ l. g x ∷ l) (map_same f g xs same)

flat_same : {X Y : Type 0} (f g : X → List Y) (xs : List X) → ((x : X) → f x ≡ g x) → flat_map f xs ≡ flat_map g xs
flat_same f g [] same = refl
flat_same f g (x ∷ xs) same = ap (λ l. l ++ flat_map f xs) (same x) ∙ ap (λ l. g x ++ l) (flat_same f g xs same)

element_same : (r q : RangeOf) (name : List ℕ) (l phase : ℕ) (cell : Cell) → ((m : Target) → r m ≡ q m) → element_of r name l phase cell ≡ element_of q name l phase cell
element_same r q name l phase (Latch a b c d e f g i j k m n o p) same = rw (same (setup_of l), same (hold_of l), same (width_of l), same (dq_of l), same (cq_of l)) refl
element_same r q name l phase (Flop a b c d e f g i j k m) same = rw (same (setup_of l), same (hold_of l), same (width_of l), same (dq_of l)) refl
element_same r q name l phase _ same = refl

outputs_same : (r q : RangeOf) (n e : ℕ) (xs : List (Listed × ℕ)) → ((m : Target) → r m ≡ q m) → output_arcs r n e xs ≡ output_arcs q n e xs
outputs_same r q n e [] same = refl
outputs_same r q n e (x ∷ xs) same = rw (same (arcs_from x.1), outputs_same r q n (e + 1) xs same) refl

leaf_same : (h : Hierarchy) (cells : CellTable) (r q : RangeOf) (n l : ℕ) (cell : Cell) → ((m : Target) → r m ≡ q m) → leaf_arcs h cells r n l cell ≡ leaf_arcs h cells q n l cell
leaf_same h cells r q n l (Gate ins outs a b) same =
    flat_same (λ i. map (gate_arc h r n l (a, b) i) (range_with_len (length ins) (length outs))) (λ i. map (gate_arc h q n l (a, b) i) (range_with_len (length ins) (length outs))) (range_with_len 0 (length ins)) (λ i.
    map_same (gate_arc h r n l (a, b) i) (gate_arc h q n l (a, b) i) (range_with_len (length ins) (length outs)) (λ o.
    ap (λ x. arc_of (inner_bit n ((leaf_at h l).first_pin + i)) (inner_bit n ((leaf_at h l).first_pin + o)) (unwrap_or x (a, b))) (same (path_on l i o))))
leaf_same h cells r q n l _ same = refl

arcs_same : (h : Hierarchy) (cells : CellTable) (r q : RangeOf) (ins outs : List (Listed × ℕ)) → ((m : Target) → r m ≡ q m) → arcs_with h cells r ins outs ≡ arcs_with h cells q ins outs
arcs_same h cells r q ins outs same =
    let s : ℕ = length (storage h cells) in
    let n : ℕ = s + length ins + length outs in
    let joins = map_same (join_arc r n) (join_arc q n) h.joins (λ j. ap (λ x. arc_of (inner_bit n j.from) (inner_bit n j.to) (unwrap_or x no_delay)) (same (join_into j.to))) in
    let leaves = flat_same (λ l. leaf_arcs h cells r n l (leaf_cell h cells l)) (λ l. leaf_arcs h cells q n l (leaf_cell h cells l)) (all_leaves h) (λ l. leaf_same h cells r q n l (leaf_cell h cells l) same) in
    rw (joins, leaves, outputs_same r q n (s + length ins) outs same) refl

pub design_same : (h : Hierarchy) (cells : CellTable) (clock : clock_type.Clock) (r q : RangeOf) (phases : List ℕ) → ((m : Target) → r m ≡ q m) → design_with h cells clock r phases ≡ design_with h cells clock q phases
design_same h cells clock r q phases same =
    let stored_ones = map_same (λ (x : ℕ × ℕ). element_of r (dotted (leaf_path h x.0)) x.0 x.1 (leaf_cell h cells x.0)) (λ (x : ℕ × ℕ). element_of q (dotted (leaf_path h x.0)) x.0 x.1 (leaf_cell h cells x.0)) (zip (storage h cells) phases)
    (λ x. element_same r q (dotted (leaf_path h x.0)) x.0 x.1 (leaf_cell h cells x.0) same) in
    rw (stored_ones, arcs_same h cells r q (bits_of h false clock.inputs) (bits_of h true clock.outputs) same) refl

-- ---- the whole
module _ (h : Hierarchy) (cells : CellTable) (clock : clock_type.Clock) (g : Gathered) (are : AreGathered h cells clock g) where
  pub as_stored : length g.phases ≡ length (storage h cells)
  as_stored = AllZip-long (IsPhaseOf h cells (phase_spots h clock)) (storage h cells) g.phases are.traced

  pub few_stored : length h.leaves ≤ MOST_LEAVES → length g.phases ≤ MOST_LEAVES
  few_stored few =
      omega (arith, as_stored, length-filter (stored h cells) (all_leaves h), count_by-le-length (stored h cells) (all_leaves h), length-range_with_len 0 (length h.leaves), few)

  pub few_gathered : (most : Most) → limit_of most (design_of_gathered h cells clock g) ≡ None → length g.phases + length (bits_of h false clock.inputs) + length (bits_of h true clock.outputs) ≤ most.elements
  few_gathered most none = few_elements most (length h.inner) (length clock.phases) _ (length h.joins + leaf_arc_count h cells + length (bits_of h false clock.inputs) + length (bits_of h true clock.outputs)) (length clock.bounds) (sym (limit_counts most h cells clock (look g.ranges) g.phases as_stored) ∙ none)

  pub made_of : (delays : List Delay) → IsResolved h cells delays g → IsMade h cells clock delays (design_of_gathered h cells clock g)
  made_of delays resolved =
      record { ports = are.ports; annotates = resolved.annotates; phases = g.phases; traced = are.traced; made = design_same h cells clock (look g.ranges) (range_of (said h cells delays)) g.phases resolved.ranges }

no_stop : (P : Refusal → Type 0) (s : Stop) → StopsAt (λ r. ⊥) s → StopsAt P s
no_stop P (stop.Refused r) none = absurd none
no_stop P stop.OutOfMemory none = tt

pub built : (most : Most) (h : Hierarchy) (cells : CellTable) (clock : clock_type.Clock) (delays : List Delay) (design : Design) (r : Result Design Stop) → IsMade h cells clock delays design → limit_of most design ≡ None → MatchResult r (λ flat. flat ≡ design) (StopsAt (λ refused. ⊥)) →
    MatchResult r (IsAnnotated most h cells clock delays) (StopsAt (IsAnnotateRefusal most h cells clock delays))
built most h cells clock delays design (Ok flat) made none same = record { whole = subst (IsMade h cells clock delays) (sym same) made; within = ap (limit_of most) same ∙ none }
built most h cells clock delays design (Err s) made none same = no_stop (IsAnnotateRefusal most h cells clock delays) s same
