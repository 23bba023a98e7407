-- What a safe certificate must be: when a chain of safe links, with a schedule and departures or alone, shows what
-- it claims, what more it keeps, and what its parts are made of.
use Rattle.std.specs.Prelude.{◌<◌, List, map, All, IsTrue, ◌≢◌, ◌≤◌, ℤ, [], length, AllPairs, ℕ}
use Rattle.mintc_text.specs.declared.limits.TheConstants.{MOST_MEMBERS}
use Rattle.mintc_timing.specs.declared.clocking.Schedule.{Schedule}
use Rattle.mintc_timing.specs.declared.link.Link.{Link}
use Rattle.mintc_graph.specs.Rings.{IsClosed}
use Rattle.mintc_timing.specs.Design.{Design, Timing, element_count, element_at}
use Rattle.mintc_timing.specs.Paths.{IsPath, input_of, greatest_delay, least_delay, IsGreatestDelay, IsLeastDelay}
use Rattle.mintc_timing.specs.Links.{IsTight, IsStuck, link_at}
use Rattle.mintc_certificate.specs.declared.members.Member.{Member}
use Rattle.mintc_certificate.specs.declared.members.Member.TheVariants as member
use Rattle.mintc_certificate.specs.Valid.{IsMember, link_of}
use Rattle.mintc_safe.specs.declared.members.SafeMember.{SafeMember}
use Rattle.mintc_safe.specs.declared.members.SafeMember.TheVariants.{Plain, Hold}
use Rattle.mintc_safe.specs.declared.certificate.SafeCertificate.{SafeCertificate}
use Rattle.mintc_safe.specs.declared.certificate.SafeCertificate.TheVariants.{Least, Never}
use Rattle.mintc_safe.specs.Hold.{IsSafe, IsSafeCycle, IsHopelessForHold, hold_link, safe_links_of}
use Rattle.mintc_timing_text.specs.Fields.{IsCount}
use Rattle.mintc_timing.specs.Limits.{IsInRange}
use Rattle.mintc_certificate.specs.CertificateText.{IsCounted}
use Rattle.mintc_certificate.specs.Ranges.{IsDeparture}
use Rattle.mintc_optimise.specs.Making.{Stands, StandInOrder}
use Rattle.mintc_optimise.specs.Optimum.{IsEarliest}
use Rattle.mintc_timing.specs.declared.link.LinkKind.TheVariants as kind

-- A reach's path has the greatest delay of all paths between its two elements.
abbrev pub IsSlowest : Design → Member → Type 0
IsSlowest design (member.Reach j l path) = IsGreatestDelay design.arcs j (input_of l) (greatest_delay design.arcs path)
IsSlowest design m = Unit {0}

-- The member names what the design has. A reach carries a listed path with the greatest delay; a hold leads to an
-- element with a hold, and carries one with the least.
abbrev pub IsSafeMember : Timing → SafeMember → Type 0
IsSafeMember t (Plain m) = IsMember t m × IsSlowest t.flat m
IsSafeMember t (Hold j l path) =
    (j < element_count t.flat) × (l < element_count t.flat) × IsTrue (element_at t.flat l).has_hold
    × IsPath t.flat.arcs j path (input_of l)
    × IsLeastDelay t.flat.arcs j (input_of l) (least_delay t.flat.arcs path)

-- The link that a member stands for; that of a hold bears number 0, for its number says nothing.
abbrev pub link_of_safe : Design → SafeMember → Link
link_of_safe design (Plain m) = link_of design m
link_of_safe design (Hold j l path) = hold_link design 0 j l (least_delay design.arcs path)

-- the links of a list of members
abbrev pub links_of_safe : Design → List SafeMember → List Link
links_of_safe design members = map (link_of_safe design) members

-- The members are the design's and lead round in a ring.
pub record IsSafeRing (t : Timing) (members : List SafeMember) : Type 0 where
  pub each : All (IsSafeMember t) members
  pub closed : IsClosed (λ k. k.from) (λ k. k.to) (links_of_safe t.flat members)

-- The schedule is right and keeps each hold, and a ring shows that its cycle is the least; or a ring shows that
-- there is none.
abbrev pub IsSafeValid : Timing → SafeCertificate → Type 0
IsSafeValid t (Least schedule departures chain) = IsSafe t schedule departures × IsSafeRing t chain
    × IsTight (links_of_safe t.flat chain) schedule.cycle schedule.den
IsSafeValid t (Never chain) = IsSafeRing t chain × IsStuck (links_of_safe t.flat chain)

-- The cycle is the least that keeps each hold; or no right schedule keeps them.
abbrev pub IsSafeOptimal : Timing → SafeCertificate → Type 0
IsSafeOptimal t (Least schedule departures chain) = IsSafe t schedule departures
    × IsSafeCycle t schedule.cycle schedule.den
IsSafeOptimal t (Never chain) = IsHopelessForHold t

-- Of all solutions of the safe links at its cycle time, the schedule with its departures is the earliest. The
-- departure of a flop is 0, as it is exact.
abbrev pub HasSafeEarliest : Timing → SafeCertificate → Type 0
HasSafeEarliest t (Least schedule departures chain) = IsEarliest t.flat (safe_links_of t) schedule departures
HasSafeEarliest t (Never chain) = Unit {0}

-- The chain enters no node twice.
abbrev pub EntersOnce : Design → List SafeMember → Type 0
EntersOnce design chain = AllPairs (λ a b. a.to ≢ b.to) (links_of_safe design chain)

-- Neither does that of a certificate, of either kind.
abbrev pub HasSafeSimple : Design → SafeCertificate → Type 0
HasSafeSimple design (Least schedule departures chain) = EntersOnce design chain
HasSafeSimple design (Never chain) = EntersOnce design chain

-- The numbers of a member are counts, and a hold has an arc.
abbrev pub IsSafeCounted : SafeMember → Type 0
IsSafeCounted (Plain m) = IsCounted m
IsSafeCounted (Hold j l path) = IsCount j × IsCount l × IsCount (length path) × (path ≢ []) × All IsCount path

-- from 1 to 32,768 members, each number of which is a count
pub record IsSafeChainInRange (chain : List SafeMember) : Type 0 where
  pub some : 1 ≤ length chain
  pub most : length chain ≤ MOST_MEMBERS
  pub each : All IsSafeCounted chain

-- a schedule, departures and a chain that a text can say
pub record IsSafeLeastInRange (schedule : Schedule) (departures : List ℤ) (chain : List SafeMember) : Type 0 where
  pub schedule_in : IsInRange schedule
  pub count : IsCount (length departures)
  pub each : All IsDeparture departures
  pub chain_in : IsSafeChainInRange chain

-- The certificate's numbers are those that a text can say.
abbrev pub IsSafeInRange : SafeCertificate → Type 0
IsSafeInRange (Least schedule departures chain) = IsSafeLeastInRange schedule departures chain
IsSafeInRange (Never chain) = IsSafeChainInRange chain

-- What the certificate must be.
pub record IsSafeOptimum (t : Timing) (certificate : SafeCertificate) : Type 0 where
  pub valid : IsSafeValid t certificate
  pub optimal : IsSafeOptimal t certificate
  pub earliest : HasSafeEarliest t certificate
  pub simple : HasSafeSimple t.flat certificate
  pub in_range : IsSafeInRange certificate

-- the link without its kind, on which no sum of a chain rests
abbrev pub bare : Link → Link
bare k = record k { kind = kind.Other 0 }

-- The member names what the design has, and stands for the link, its kind aside.
abbrev pub StandsFor : Timing → Link → SafeMember → Type 0
StandsFor t k m = Stands (IsSafeMember t) IsSafeCounted (λ x. bare (link_of_safe t.flat x)) (bare k) m

-- The members stand for the links of these numbers, in order.
abbrev pub StandForAll : Timing → List Link → List ℕ → List SafeMember → Type 0
StandForAll t links chain members = StandInOrder (IsSafeMember t) IsSafeCounted (λ x. bare (link_of_safe t.flat x))
    (λ e. bare (link_at links e)) chain members
