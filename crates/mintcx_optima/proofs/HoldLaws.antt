-- The least delays of paths, arc by arc.
use Rattle.std.proofs.Common.{◌≡◌, ◌<◌, ◌≤◌, ◌+◌, ◌-◌, ℕ, Bool, true, false, if◌then◌else◌, pos, ◌+ℤ◌, ◌≤ℤ◌, List, [], ◌∷◌, length, get_or, take, arith}
use Rattle.std.proofs.lemmas.Grind.{take_at_read}
use Rattle.std.proofs.lemmas.Int.{ints}
use Rattle.mintc_timing.specs.declared.parts.TimingArc.{TimingArc}
use Rattle.mintc_timing.specs.Design.{Design, element_at, element_count, no_arc, no_element, phase_count, phase_of}
use Rattle.mintc_timing.specs.Limits.{IsDelay, IsDesign, IsElement, IsPhase}
use Rattle.mintc_timing.specs.Links.{end_node, node_count, start_node}
use Rattle.mintc_timing.specs.Order.{ArePathsShort}
use Rattle.mintc_timing.specs.Paths.{Leads, arc_at, output_of, greatest_delay, least_delay}
use Rattle.mintc_graph.proofs.SharedRingLaws.{total-append}
use Rattle.mintc_certificate.proofs.SharedPathDelays.{path-range}
use Rattle.mintcx_chain.specs.Names.{IsShort, IsStage}
use Rattle.mintcx_optima.specs.Safe.{hold_stage}
use Rattle.std.specs.Prelude.{All}
use Rattle.std.proofs.lemmas.List.Elements.{All-nil, All-cons}

-- one more arc of a sum
pub least_more : (arcs : List TimingArc) (path : List ℕ) (i : ℕ) → i < length path →
    least_delay arcs (take (i + 1) path) ≡ least_delay arcs (take i path) +ℤ (arc_at arcs (get_or path i 0)).min
least_more arcs path i below = grind (arith, ints, take_at_read, total-append)

-- Along a path the least delay is not negative, and at most the greatest one.
delays_ordered : (arcs : List TimingArc) → ((n : ℕ) → n < length arcs → (pos 0 ≤ℤ (arc_at arcs n).min) × ((arc_at arcs n).min ≤ℤ (arc_at arcs n).max)) →
    (from : ℕ) (path : List ℕ) (to : ℕ) → Leads arcs from path to → (pos 0 ≤ℤ least_delay arcs path) × (least_delay arcs path ≤ℤ greatest_delay arcs path)
delays_ordered arcs each from [] to h = (omega (arith, ints), omega (arith, ints))
delays_ordered arcs each from (n ∷ path) to h =
    let here = each n h.0 in
    let rest = delays_ordered arcs each (arc_at arcs n).to path to h.2 in
    (omega (arith, ints), omega (arith, ints))

-- a path from an element takes no less than a delay may, and no more
pub least_range : (design : Design) → IsDesign design → ArePathsShort design → (j bit : ℕ) (path : List ℕ) → j < length design.elements →
    Leads design.arcs (output_of j) path bit → IsDelay (least_delay design.arcs path)
least_range design limits short j bit path element leads =
    let ordered = delays_ordered design.arcs (λ k g. let arc = limits.each_arc k no_arc g in (arc.min.0, arc.ordered)) (output_of j) path bit leads in
    let most = path-range design limits short j bit path element leads in
    (omega (arith, ints), omega (arith, ints))

choice_below : (b : Bool) (x y n : ℕ) → x < n → y < n → (if b then x else y) < n
choice_below true x y n h g = h
choice_below false x y n h g = g

module _ (design : Design) (limits : IsDesign design) (j l : ℕ) (path : List ℕ) (first : j < element_count design) (second : l < element_count design) where
  abbrev Below : ℕ → Type 0
  Below k = k < element_count design

  phase_in : (k : ℕ) → k < element_count design → IsPhase (phase_count design) (phase_of design k)
  phase_in k below = (limits.each_element k no_element below).phase

  start_in : (k : ℕ) → k < element_count design → start_node (phase_of design k) < node_count design
  start_in k below = let phase = phase_in k below in omega arith

  end_in : (k : ℕ) → k < element_count design → end_node (phase_of design k) < node_count design
  end_in k below = let phase = phase_in k below in omega arith

  -- the stage of a hold leads between nodes of the design
  pub hold_inside : IsStage design (hold_stage design j l path)
  hold_inside = record {
    from = choice_below (element_at design l).flop (start_node (phase_of design l)) (end_node (phase_of design l)) (node_count design) (start_in l second) (end_in l second);
    to = start_in j first;
    element = tt;
    elements = All-cons Below j (l ∷ []) first (All-cons Below l [] second (All-nil Below));
  }

  -- and takes no more time than a few delays
  pub hold_short : IsDelay (least_delay design.arcs path) → IsShort (hold_stage design j l path)
  hold_short least =
      let from = (limits.each_element j no_element first).cq_min in
      let to = (limits.each_element l no_element second).hold in
      record { span = (omega (arith, ints), omega (arith, ints)); cycles = omega arith }
