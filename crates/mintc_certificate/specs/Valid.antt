-- What members stand for, and the seven tests of a certificate.
use Rattle.std.specs.Prelude.{◌≡◌, ◌<◌, ◌≤◌, ℕ, ℤ, pos, List, length, slice_index_or, map, All, IsTrue, IsFalse}
use Rattle.mintc_timing.specs.declared.parts.Bound.{Bound}
use Rattle.mintc_timing.specs.declared.parts.Point.TheVariants.{Origin}
use Rattle.mintc_timing.specs.declared.clocking.Schedule.{Schedule}
use Rattle.mintc_timing.specs.declared.link.Link.{Link}
use Rattle.mintc_certificate.specs.declared.members.Member.{Member}
use Rattle.mintc_certificate.specs.declared.members.Member.TheVariants as member
use Rattle.mintc_certificate.specs.declared.certificate.Certificate.{Certificate}
use Rattle.mintc_certificate.specs.declared.certificate.Certificate.TheVariants.{Least, Never}
use Rattle.mintc_graph.specs.Rings.{IsClosed}
use Rattle.mintc_timing.specs.Design.{Design, Timing, phase_count, element_count, element_at}
use Rattle.mintc_timing.specs.Limits.{IsPhase}
use Rattle.mintc_timing.specs.Paths.{IsPath, input_of, greatest_delay}
use Rattle.mintc_timing.specs.Clocking.{KeepsClock, KeepsBound, feeds_of}
use Rattle.mintc_timing.specs.Departures.{AreExact}
use Rattle.mintc_timing.specs.Right.{KeepsSetup}
use Rattle.mintc_timing.specs.Links.{start_link, cycle_link, order_link, span_link, width_link, apart_link}
use Rattle.mintc_timing.specs.Links.{opening_link, opened_link, reach_link, setup_link, bound_link, IsTight, IsStuck}

-- what stands for a bound past the end
abbrev pub no_bound : Bound
no_bound = record { from = Origin; to = Origin; gap = pos 0; cycles = 0 }

-- The member's numbers are the design's. A reach carries a listed path from its first element to its second.
abbrev pub IsNamed : Design → Member → Type 0
IsNamed design (member.Start p) = IsPhase (phase_count design) p
IsNamed design (member.Cycle p) = IsPhase (phase_count design) p
IsNamed design (member.Order p) = (1 ≤ p) × (p < phase_count design)
IsNamed design (member.Span p) = IsPhase (phase_count design) p
IsNamed design (member.Width p) = IsPhase (phase_count design) p
IsNamed design (member.Apart i j) = IsPhase (phase_count design) i × IsPhase (phase_count design) j
IsNamed design (member.Opening l) = l < element_count design
IsNamed design (member.Opened l) = (l < element_count design) × IsFalse (element_at design l).flop
IsNamed design (member.Reach j l path) = (j < element_count design) × (l < element_count design)
    × IsPath design.arcs j path (input_of l)
IsNamed design (member.Setup l) = l < element_count design
IsNamed design (member.Bound n) = n < length design.bounds

-- The member names what the design has; of two phases apart, the first feeds the second.
abbrev pub IsMember : Timing → Member → Type 0
IsMember t (member.Apart i j) = IsPhase (phase_count t.flat) i × IsPhase (phase_count t.flat) j
    × IsTrue (feeds_of t i j)
IsMember t m = IsNamed t.flat m

-- The link that a member stands for. A reach has the delay of its own path, which may be less than the greatest.
abbrev pub link_of : Design → Member → Link
link_of design (member.Start p) = start_link p
link_of design (member.Cycle p) = cycle_link p
link_of design (member.Order p) = order_link p
link_of design (member.Span p) = span_link p
link_of design (member.Width p) = width_link design p
link_of design (member.Apart i j) = apart_link i j
link_of design (member.Opening l) = opening_link design l
link_of design (member.Opened l) = opened_link design l
link_of design (member.Reach j l path) = reach_link design j l (greatest_delay design.arcs path)
link_of design (member.Setup l) = setup_link design l
link_of design (member.Bound n) = bound_link n (slice_index_or design.bounds n no_bound)

-- the links of members, in their order
abbrev pub links_of_members : Design → List Member → List Link
links_of_members design members = map (link_of design) members

-- the chain of a certificate with a schedule or without one
abbrev pub chain_of : Certificate → List Member
chain_of (Least schedule departures chain) = chain
chain_of (Never chain) = chain

-- The tests of a certificate, in order: it has the design's phases and elements; it keeps the clock; it keeps the
-- bounds; its departures are exact; it keeps the setups; its members are the design's and lead round in a ring;
-- the ring forbids each smaller cycle, or each cycle.
pub data Test : Type 0 where
  counts : Test
  clock : Test
  bounds : Test
  departures : Test
  setups : Test
  ring : Test
  sums : Test

-- the number of a test, as a verdict says it
abbrev pub number_of : Test → ℕ
number_of counts = 1
number_of clock = 2
number_of bounds = 3
number_of departures = 4
number_of setups = 5
number_of ring = 6
number_of sums = 7

-- The schedule has the design's phases, and departures are as many as its elements.
abbrev pub HasCounts : Design → Schedule → List ℤ → Type 0
HasCounts design s d = (length s.starts ≡ phase_count design) × (length s.widths ≡ phase_count design)
    × (length d ≡ element_count design)

-- what a test asks of a schedule and its departures
abbrev pub SchedulePasses : Timing → Schedule → List ℤ → Test → Type 0
SchedulePasses t s d counts = HasCounts t.flat s d
SchedulePasses t s d clock = KeepsClock t s
SchedulePasses t s d bounds = All (KeepsBound s) t.flat.bounds
SchedulePasses t s d departures = AreExact t s d
SchedulePasses t s d setups = (l : ℕ) → l < element_count t.flat → KeepsSetup t s d l
SchedulePasses t s d ring = Unit {0}
SchedulePasses t s d sums = Unit {0}

-- what the test before the last asks of a ring
abbrev pub IsRing : Timing → List Member → Type 0
IsRing t members = All (IsMember t) members × IsClosed (λ k. k.from) (λ k. k.to) (links_of_members t.flat members)

-- what a test asks of a certificate; without a schedule the tests of one pass
abbrev pub Passes : Timing → Certificate → Test → Type 0
Passes t (Least s d chain) ring = IsRing t chain
Passes t (Least s d chain) sums = IsTight (links_of_members t.flat chain) s.cycle s.den
Passes t (Least s d chain) test = SchedulePasses t s d test
Passes t (Never chain) ring = IsRing t chain
Passes t (Never chain) sums = IsStuck (links_of_members t.flat chain)
Passes t (Never chain) test = Unit {0}

-- Every test passes.
abbrev pub IsValid : Timing → Certificate → Type 0
IsValid t certificate = (test : Test) → Passes t certificate test
