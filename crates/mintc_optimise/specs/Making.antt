-- What the parts of a certificate are made of.
use Rattle.std.specs.Prelude.{◌≡◌, ◌<◌, ℕ, ℤ, ◌-ℤ◌, IsFalse, List, length, map, All}
use Rattle.mintc_graph_walks.specs.Walks.{value_at}
use Rattle.mintc_timing.specs.declared.link.Link.{Link}
use Rattle.mintc_timing.specs.Clocking.{EachPhase}
use Rattle.mintc_timing.specs.Design.{Design, Timing, element_at, element_count, phase_of}
use Rattle.mintc_timing.specs.Limits.{IsNumerator}
use Rattle.mintc_timing.specs.Links.{start_node, end_node, element_node, link_at, node_count}
use Rattle.mintc_certificate.specs.declared.members.Member.{Member}
use Rattle.mintc_certificate.specs.CertificateText.{IsCounted}
use Rattle.mintc_certificate.specs.Ranges.{IsDeparture}
use Rattle.mintc_certificate.specs.Valid.{IsMember, link_of}

-- The values, a moment for each node, are small enough to be said as a schedule with its departures.
pub record AreSayable (design : Design) (values : List ℤ) : Type 0 where
  pub count : length values ≡ node_count design
  pub starts : EachPhase design (λ p. IsNumerator (value_at values (start_node p)))
  pub widths : EachPhase design (λ p. IsNumerator (value_at values (end_node p) -ℤ value_at values (start_node p)))
  pub departures : (l : ℕ) → l < element_count design → IsFalse (element_at design l).flop →
      IsDeparture (value_at values (element_node design l) -ℤ value_at values (start_node (phase_of design l)))

-- The member is one that is meant, shows the link, and has numbers that are counts.
pub record Stands {M : Type 0} (IsMeant IsFew : M → Type 0) (shows : M → Link) (k : Link) (m : M) : Type 0 where
  pub member : IsMeant m
  pub same : shows m ≡ k
  pub counted : IsFew m

-- So do members and the links of these numbers, in order.
pub record StandInOrder {M : Type 0} (IsMeant IsFew : M → Type 0) (shows : M → Link) (link : ℕ →
    Link) (chain : List ℕ) (members : List M) : Type 0 where
  pub each : All IsMeant members
  pub same : map shows members ≡ map link chain
  pub counted : All IsFew members

-- The member names what the design has, and stands for the link.
abbrev pub StandsFor : Timing → Link → Member → Type 0
StandsFor t k m = Stands (IsMember t) IsCounted (link_of t.flat) k m

-- The members stand for the links of these numbers, in order.
abbrev pub StandForAll : Timing → List Link → List ℕ → List Member → Type 0
StandForAll t links chain members = StandInOrder (IsMember t) IsCounted (link_of t.flat) (link_at links) chain members
