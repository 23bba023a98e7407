-- An element at an edge lies within the merged one.
use Rattle.std.proofs.Common.{◌≡◌, ℕ, ℤ, ◌≤ℤ◌, Bool, true, false, ◌||◌, is_some, List, Option, Some, None, unwrap_or, arith, refl, ap, sym, ◌∙◌}
use Rattle.std.proofs.lemmas.Int.{ints, clamps}
use Rattle.std.specs.Option.{option_or}
use Rattle.mintc_cells.specs.declared.cell.Cell.{Cell}
use Rattle.mintc_cells.specs.declared.cell.Cell.TheVariants.{Gate, Latch, Flop, Clock}
use Rattle.mintc_clock.specs.declared.clock.Listed.{Listed}
use Rattle.mintc_flatten_hierarchy.specs.declared.hierarchy.Hierarchy.{Hierarchy}
use Rattle.mintc_flatten_hierarchy.specs.Shape.{CellTable}
use Rattle.mintc_sdf_edges.specs.declared.delays.EdgeDelay.{EdgeDelay}
use Rattle.mintc_timing.specs.declared.parts.Element.{Element}
use Rattle.mintc_annotate_resolve.specs.Pins.{leaf_cell, leaf_path, dotted}
use Rattle.mintc_annotate_resolve.specs.Resolution.{dq_of, cq_of, setup_of, hold_of, width_of}
use Rattle.mintc_annotate.specs.Made.{RangeOf, element_of, port_element, first_range, unless_own_cq, greatest_or}
use Rattle.mintc_edges_cover.specs.Cover.{IsWithin}
use Rattle.mintc_edges.specs.declared.edge.Edge.{Edge}
use Rattle.mintc_edges.specs.Numbers.{SenseOf, merged_range, element_range}
use Rattle.mintc_edges.specs.Apart.{named_at, no_later_than, merged_element, stored_element}
use Rattle.mintc_edges.proofs.RangeLaws.{IsInside, element-inside}

-- what is said within what is said, or a default in both
greatest-or : (w r : Option (ℤ × ℤ)) (default : ℤ) → IsInside w r → greatest_or r default ≤ℤ greatest_or w default
greatest-or None None default h = omega (arith, ints)
greatest-or None (Some r) default h = absurd h
greatest-or (Some w) None default h = absurd h
greatest-or (Some w) (Some r) default h = h.1

abbrev Reach : ℤ × ℤ → ℤ × ℤ → Type 0
Reach w r = (w.0 ≤ℤ r.0) × (r.1 ≤ℤ w.1)

pub unwrap-or : (w r : Option (ℤ × ℤ)) (default : ℤ × ℤ) → IsInside w r → Reach (unwrap_or w default) (unwrap_or r default)
unwrap-or None None default h = (omega (arith, ints), omega (arith, ints))
unwrap-or None (Some r) default h = absurd h
unwrap-or (Some w) None default h = absurd h
unwrap-or (Some w) (Some r) default h = h

either : (w r x y : Option (ℤ × ℤ)) → IsInside w r → IsInside x y → IsInside (option_or w x) (option_or r y)
either None None x y h k = k
either None (Some r) x y h k = absurd h
either (Some w) None x y h k = absurd h
either (Some w) (Some r) x y h k = h

unless-own : (own : Bool) (w r : Option (ℤ × ℤ)) → IsInside w r → IsInside (unless_own_cq own w) (unless_own_cq own r)
unless-own true w r h = tt
unless-own false w r h = h

first-range : (own : Bool) (w r x y : Option (ℤ × ℤ)) (default : ℤ × ℤ) → IsInside w r → IsInside x y →
    Reach (first_range w (unless_own_cq own x) default) (first_range r (unless_own_cq own y) default)
first-range own w r x y default h k =
    unwrap-or (option_or w (unless_own_cq own x)) (option_or r (unless_own_cq own y)) default
    (either w r (unless_own_cq own x) (unless_own_cq own y) h (unless-own own x y k))

same-some : (w r : Option (ℤ × ℤ)) → IsInside w r → is_some r ≡ is_some w
same-some None None h = refl
same-some None (Some r) h = absurd h
same-some (Some w) None h = absurd h
same-some (Some w) (Some r) h = refl

-- An element whose numbers reach less far, and that then opens no later, lies within the other.
pub record Reaches (merged element : Element) : Type 0 where
  pub phase : element.phase ≡ merged.phase
  pub flop : element.flop ≡ merged.flop
  pub setup : element.setup ≤ℤ merged.setup
  pub has_hold : element.has_hold ≡ merged.has_hold
  pub hold : element.hold ≤ℤ merged.hold
  pub dq : Reach (merged.dq_min, merged.dq_max) (element.dq_min, element.dq_max)
  pub cq : Reach (merged.cq_min, merged.cq_max) (element.cq_min, element.cq_max)
  pub width : element.width ≤ℤ merged.width

pub within : (merged element : Element) (e : Edge) → Reaches merged element → IsWithin merged (named_at e (no_later_than merged element))
within merged element e r = record {
  phase = r.phase;
  flop = r.flop;
  setup = r.setup;
  has_hold = λ h. sym r.has_hold ∙ h;
  hold = λ _. r.hold;
  dq_min = r.dq.0;
  dq_max = omega (arith, ints, clamps, r.dq.1, r.cq.1);
  cq_min = r.cq.0;
  cq_max = r.cq.1;
  opening = omega (arith, ints, clamps);
  width = r.width;
}

-- The element of a cell, where ranges lie within others.
reaches : (wide narrow : RangeOf) (name : List ℕ) (l phase : ℕ) (cell : Cell) → ((m : _) → IsInside (wide m) (narrow m)) →
    Reaches (element_of wide name l phase cell) (element_of narrow name l phase cell)
reaches wide narrow name l phase (Gate inputs outputs min max) h = record {
  phase = refl;
  flop = refl;
  setup = omega (arith, ints);
  has_hold = refl;
  hold = omega (arith, ints);
  dq = (omega (arith, ints), omega (arith, ints));
  cq = (omega (arith, ints), omega (arith, ints));
  width = omega (arith, ints);
}
reaches wide narrow name l phase (Clock input output invert ignored) h = record {
  phase = refl;
  flop = refl;
  setup = omega (arith, ints);
  has_hold = refl;
  hold = omega (arith, ints);
  dq = (omega (arith, ints), omega (arith, ints));
  cq = (omega (arith, ints), omega (arith, ints));
  width = omega (arith, ints);
}
reaches wide narrow name l phase (Latch pin_d pin_g high outputs ignored setup hold has_hold dq_min dq_max cq_min cq_max has_cq width) h = record {
  phase = refl;
  flop = refl;
  setup = greatest-or (wide (setup_of l)) (narrow (setup_of l)) setup (h (setup_of l));
  has_hold = ap (λ b. b || has_hold) (same-some (wide (hold_of l)) (narrow (hold_of l)) (h (hold_of l)));
  hold = greatest-or (wide (hold_of l)) (narrow (hold_of l)) hold (h (hold_of l));
  dq = first-range has_cq (wide (dq_of l)) (narrow (dq_of l)) (wide (cq_of l)) (narrow (cq_of l)) (dq_min, dq_max) (h (dq_of l)) (h (cq_of l));
  cq = first-range has_cq (wide (cq_of l)) (narrow (cq_of l)) (wide (dq_of l)) (narrow (dq_of l)) (cq_min, cq_max) (h (cq_of l)) (h (dq_of l));
  width = greatest-or (wide (width_of l)) (narrow (width_of l)) width (h (width_of l));
}
reaches wide narrow name l phase (Flop pin_d pin_clock rising outputs ignored setup hold has_hold cq_min cq_max width) h = record {
  phase = refl;
  flop = refl;
  setup = greatest-or (wide (setup_of l)) (narrow (setup_of l)) setup (h (setup_of l));
  has_hold = ap (λ b. b || has_hold) (same-some (wide (hold_of l)) (narrow (hold_of l)) (h (hold_of l)));
  hold = greatest-or (wide (hold_of l)) (narrow (hold_of l)) hold (h (hold_of l));
  dq = unwrap-or (wide (dq_of l)) (narrow (dq_of l)) (cq_min, cq_max) (h (dq_of l));
  cq = unwrap-or (wide (dq_of l)) (narrow (dq_of l)) (cq_min, cq_max) (h (dq_of l));
  width = greatest-or (wide (width_of l)) (narrow (width_of l)) width (h (width_of l));
}

pub stored-within : (h : Hierarchy) (cells : CellTable) (sense : SenseOf) (ds : List EdgeDelay) (l phase : ℕ) (e : Edge) →
    IsWithin (merged_element h cells ds l phase) (stored_element h cells sense ds l phase e)
stored-within h cells sense ds l phase e =
    within (merged_element h cells ds l phase) (element_of (element_range h cells sense ds e) (dotted (leaf_path h l)) l phase (leaf_cell h cells l)) e
    (reaches (merged_range h cells ds) (element_range h cells sense ds e) (dotted (leaf_path h l)) l phase (leaf_cell h cells l) (element-inside h cells sense ds e))

pub port-within : (names : List (List ℕ)) (x : Listed × ℕ) (e : Edge) → IsWithin (port_element names x) (named_at e (port_element names x))
port-within names x e = record {
  phase = refl;
  flop = refl;
  setup = omega (arith, ints);
  has_hold = λ h. h;
  hold = λ _. omega (arith, ints);
  dq_min = omega (arith, ints);
  dq_max = omega (arith, ints);
  cq_min = omega (arith, ints);
  cq_max = omega (arith, ints);
  opening = omega (arith, ints, clamps);
  width = omega (arith, ints);
}
