-- The elements and arcs of the design are within their limits.
use Rattle.std.proofs.Common.{◌≡◌, ℕ, ◌<◌, ◌*◌, ℤ, arith}
use Rattle.std.proofs.lemmas.Int.{ints, clamps}
use Rattle.mintc_timing.specs.declared.parts.Element.{Element}
use Rattle.mintc_timing.specs.Limits.{IsElement, IsArc}
use Rattle.mintc_timing.specs.Paths.{input_of, output_of}
use Rattle.mintc_annotate.specs.Made.{arc_of}
use Rattle.mintc_annotate.proofs.SharedArcLimits.{inner_arc, data_arc, output_arc}
use Rattle.mintc_annotate.proofs.SharedElementLimits.{AreDelays}
use Rattle.mintc_edges.specs.declared.edge.Edge.{Edge}
use Rattle.mintc_edges.specs.declared.edge.Edge.TheVariants.{Rise, Fall}
use Rattle.mintc_edges.specs.Edges.{at_edge}
use Rattle.mintc_edges.specs.Apart.{bit_apart, named_at, no_later_than}

-- an element that opens no later than the merged one stays within the limits
pub edge-element : (k : ℕ) (merged own : Element) (e : Edge) → IsElement k own → IsElement k (named_at e (no_later_than merged own))
edge-element k merged own e is = record {
  phase = is.phase;
  setup = is.setup;
  hold = is.hold;
  no_hold = is.no_hold;
  dq_min = is.dq_min;
  dq_max = (omega (arith, ints, clamps, is.dq_max.0), omega (arith, ints, clamps, is.dq_max.1, is.cq_max.1));
  dq = omega (arith, ints, clamps, is.dq);
  cq_min = is.cq_min;
  cq_max = is.cq_max;
  cq = is.cq;
  flop = λ h. ((is.flop h).0, (let same = (is.flop h).1 in omega (arith, ints, clamps, same)));
  width = is.width;
}

-- an inner bit at an edge, and arcs between bits of a design in which n elements and m inner bits stand twice
edge-below : (n m : ℕ) (e : Edge) → n < m → at_edge n e < 2 * m
edge-below n m Rise h = omega (arith, h)
edge-below n m Fall h = omega (arith, h)

pub inner-apart : (n m b c : ℕ) (i o : Edge) (r : ℤ × ℤ) → b < m → c < m → AreDelays r → IsArc (2 * n) (2 * m) (arc_of (bit_apart n b i) (bit_apart n c o) r)
inner-apart n m b c i o r from to delays = inner_arc (2 * n) (2 * m) (at_edge b i) (at_edge c o) r (edge-below b m i from) (edge-below c m o to) delays

pub data-apart : (n m b l : ℕ) (i o : Edge) (r : ℤ × ℤ) → b < m → l < n → AreDelays r → IsArc (2 * n) (2 * m) (arc_of (bit_apart n b i) (input_of (at_edge l o)) r)
data-apart n m b l i o r from to delays = data_arc (2 * n) (2 * m) (at_edge b i) (at_edge l o) r (edge-below b m i from) (edge-below l n o to) delays

pub output-apart : (n m b l : ℕ) (i o : Edge) (r : ℤ × ℤ) → b < m → l < n → AreDelays r → IsArc (2 * n) (2 * m) (arc_of (output_of (at_edge l i)) (bit_apart n b o) r)
output-apart n m b l i o r to from delays = output_arc (2 * n) (2 * m) (at_edge b o) (at_edge l i) r (edge-below b m o to) (edge-below l n i from) delays
