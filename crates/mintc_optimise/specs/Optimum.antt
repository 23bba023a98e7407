-- Certificates that are the earliest and meet no node twice.
use Rattle.std.specs.Prelude.{◌≡◌, ◌≢◌, ◌<◌, ℕ, ℤ, pos, ◌+ℤ◌, ◌*ℤ◌, ◌≤ℤ◌, IsFalse, List, All, AllPairs, Contains}
use Rattle.mintc_fraction.specs.Ratio.{over, IsLowest}
use Rattle.mintc_timing.specs.declared.clocking.Schedule.{Schedule}
use Rattle.mintc_timing.specs.declared.link.Link.{Link}
use Rattle.mintc_timing.specs.Clocking.{EachPhase, start_of, end_of}
use Rattle.mintc_timing.specs.Departures.{departure}
use Rattle.mintc_timing.specs.Design.{Design, Timing, element_at, element_count, phase_of}
use Rattle.mintc_timing.specs.Links.{links_of, start_node, end_node, element_node, IsMet}
use Rattle.mintc_certificate.specs.declared.certificate.Certificate.{Certificate}
use Rattle.mintc_certificate.specs.declared.certificate.Certificate.TheVariants.{Least, Never}
use Rattle.mintc_certificate.specs.declared.members.Member.{Member}
use Rattle.mintc_certificate.specs.Valid.{chain_of, links_of_members}

-- Moments of the nodes, time 0 at 0, of which each link of a list holds at the schedule's cycle time, over so many
-- times its denominator. Any solution in fractions can be written so.
pub record IsSolution (links : List Link) (s : Schedule) (factor : ℤ) (moment : ℕ → ℤ) : Type 0 where
  pub positive : pos 1 ≤ℤ factor
  pub origin : moment 0 ≡ pos 0
  pub met : All (IsMet (s.cycle *ℤ factor) (s.den *ℤ factor) moment) links

-- The schedule's denominator is that of its cycle time in lowest terms; and of all solutions of the links at this
-- cycle time its starts, its ends and the moments at which its latches depart are the least.
pub record IsEarliest (design : Design) (links : List Link) (s : Schedule) (d : List ℤ) : Type 0 where
  pub lowest : IsLowest (over s.cycle s.den)
  pub starts : (factor : ℤ) (moment : ℕ → ℤ) → IsSolution links s factor moment →
      EachPhase design (λ p. (start_of s p *ℤ factor) ≤ℤ moment (start_node p))
  pub ends : (factor : ℤ) (moment : ℕ → ℤ) → IsSolution links s factor moment →
      EachPhase design (λ p. (end_of s p *ℤ factor) ≤ℤ moment (end_node p))
  pub latches : (factor : ℤ) (moment : ℕ → ℤ) → IsSolution links s factor moment → (l : ℕ) → l < element_count design →
      IsFalse (element_at design l).flop →
      ((start_of s (phase_of design l) +ℤ departure d l) *ℤ factor) ≤ℤ moment (element_node design l)

-- The schedule of a certificate, where it has one, is the earliest.
abbrev pub HasEarliest : Timing → Certificate → Type 0
HasEarliest t (Least schedule departures chain) = IsEarliest t.flat (links_of t) schedule departures
HasEarliest t (Never chain) = Unit {0}

-- The members stand for links of the design, so that each reach has the greatest delay of its pair, and the chain
-- enters no node twice.
pub record IsSimple (t : Timing) (members : List Member) : Type 0 where
  pub listed : All (Contains (links_of t)) (links_of_members t.flat members)
  pub once : AllPairs (λ a b. a.to ≢ b.to) (links_of_members t.flat members)

-- The chain of a certificate is such a one.
abbrev pub HasSimple : Timing → Certificate → Type 0
HasSimple t certificate = IsSimple t (chain_of certificate)
