-- When one design covers another: it has no less of what is greatest, and no more of what is least.
use Rattle.std.specs.Prelude.{◌≡◌, ◌<◌, ℕ, pos, ◌-ℤ◌, ◌≤ℤ◌, All, Any, IsTrue}
use Rattle.std.specs.Int.{int_max}
use Rattle.mintc_timing.specs.declared.parts.Element.{Element}
use Rattle.mintc_timing.specs.declared.parts.TimingArc.{TimingArc}
use Rattle.mintc_timing.specs.declared.parts.Pair.{Pair}
use Rattle.mintc_timing.specs.Design.{Design, Timing, element_count, element_at}
use Rattle.mintc_timing.specs.Paths.{input_of, output_of}

-- An element is covered by another one: both are of one kind and on one phase; the other asks for no shorter setup, no
-- shorter hold and no narrower pulse, and its delays reach as far down and as far up. A latch that opens late, its
-- delay from the enable above that from its data, opens no later than the other.
pub record IsWithin (other element : Element) : Type 0 where
  pub phase : element.phase ≡ other.phase
  pub flop : element.flop ≡ other.flop
  pub setup : element.setup ≤ℤ other.setup
  pub has_hold : IsTrue element.has_hold → IsTrue other.has_hold
  pub hold : IsTrue element.has_hold → element.hold ≤ℤ other.hold
  pub dq_min : other.dq_min ≤ℤ element.dq_min
  pub dq_max : element.dq_max ≤ℤ other.dq_max
  pub cq_min : other.cq_min ≤ℤ element.cq_min
  pub cq_max : element.cq_max ≤ℤ other.cq_max
  pub opening : (element.cq_max -ℤ element.dq_max) ≤ℤ int_max (pos 0) (other.cq_max -ℤ other.dq_max)
  pub width : element.width ≤ℤ other.width

-- An arc lies on another one, where bits lie on others as told: it leaves and enters bits that lie on those of the
-- other, whose delays reach as far down and as far up.
pub record LiesOn (bit_on : ℕ → ℕ) (arc other : TimingArc) : Type 0 where
  pub from : other.from ≡ bit_on arc.from
  pub to : other.to ≡ bit_on arc.to
  pub min : other.min ≤ℤ arc.min
  pub max : arc.max ≤ℤ other.max

-- Each element of a design lies on one of another, which covers it; its bits lie on the bits of that one, and each arc
-- lies on an arc. Phases and bounds are the same.
pub record IsCover (other design : Design) : Type 0 where
  pub phases : design.phases ≡ other.phases
  pub bounds : design.bounds ≡ other.bounds
  pub element_on : ℕ → ℕ
  pub bit_on : ℕ → ℕ
  pub there : (m : ℕ) → m < element_count design → element_on m < element_count other
  pub inputs : (m : ℕ) → m < element_count design → bit_on (input_of m) ≡ input_of (element_on m)
  pub outputs : (m : ℕ) → m < element_count design → bit_on (output_of m) ≡ output_of (element_on m)
  pub elements : (m : ℕ) → m < element_count design →
      IsWithin (element_at other (element_on m)) (element_at design m)
  pub arcs : All (λ a. Any (LiesOn bit_on a) other.arcs) design.arcs

-- A pair lies on another one, between the elements on which its own lie.
pub record PairLiesOn (element_on : ℕ → ℕ) (pair other : Pair) : Type 0 where
  pub from : other.from ≡ element_on pair.from
  pub to : other.to ≡ element_on pair.to
  pub min : other.min ≤ℤ pair.min
  pub max : pair.max ≤ℤ other.max

-- Each element that data reaches in the design that covers is reached in the design.
abbrev pub IsFedAlike : (ℕ → ℕ) → Timing → Timing → Type 0
IsFedAlike element_on other t = (m : ℕ) → m < element_count t.flat →
    Any (λ p. p.to ≡ element_on m) other.pairs → Any (λ p. p.to ≡ m) t.pairs
