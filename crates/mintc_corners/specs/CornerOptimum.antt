-- What a corner certificate must be: when a chain of joint links shows what it claims, and what more it keeps.
use Rattle.std.specs.Prelude.{◌<◌, ◌*◌, ◌+◌, ℕ, zero, suc, List, ◌∷◌, length, slice_index_or, map, All, ◌≢◌, ◌≤◌, ℤ, []}
use Rattle.std.specs.Prelude.{flat_map, AllPairs}
use Rattle.mintc_text.specs.declared.limits.TheConstants.{MOST_MEMBERS}
use Rattle.mintc_timing.specs.declared.clocking.Schedule.{Schedule}
use Rattle.mintc_timing.specs.declared.link.Link.{Link}
use Rattle.mintc_graph.specs.Rings.{IsClosed}
use Rattle.mintc_timing.specs.Design.{Design, Timing, element_count}
use Rattle.mintc_timing.specs.Paths.{input_of, greatest_delay, IsGreatestDelay}
use Rattle.mintc_timing.specs.Links.{IsTight, IsStuck, opening_link, opened_link, reach_link, setup_link}
use Rattle.mintc_certificate.specs.declared.members.Member.{Member}
use Rattle.mintc_certificate.specs.declared.members.Member.TheVariants as member
use Rattle.mintc_certificate.specs.Valid.{IsMember, link_of}
use Rattle.mintc_corners.specs.declared.members.CornerMember.{CornerMember}
use Rattle.mintc_corners.specs.declared.certificate.CornerCertificate.{CornerCertificate}
use Rattle.mintc_corners.specs.declared.certificate.CornerCertificate.TheVariants.{Least, Never}
use Rattle.mintc_corners.specs.Joint.{AreJointlyRight, IsJointCycle, AreJointlyHopeless, side_by_side, joint_links_of}
use Rattle.mintc_timing_text.specs.Fields.{IsCount}
use Rattle.mintc_timing.specs.Limits.{IsInRange}
use Rattle.mintc_certificate.specs.CertificateText.{IsCounted}
use Rattle.mintc_certificate.specs.Ranges.{IsDeparture}
use Rattle.mintc_optimise.specs.Optimum.{IsEarliest}

-- A member of the clock, or a bound, bears the corner 0.
abbrev pub IsOfClock : Member → Type 0
IsOfClock (member.Opening l) = ⊥
IsOfClock (member.Opened l) = ⊥
IsOfClock (member.Reach j l path) = ⊥
IsOfClock (member.Setup l) = ⊥
IsOfClock m = Unit {0}

-- Any other is one of its corner's design, and a reach carries a listed path with the greatest delay there.
abbrev pub IsOfElements : Timing → Member → Type 0
IsOfElements t (member.Reach j l path) = IsMember t (member.Reach j l path)
    × IsGreatestDelay t.flat.arcs j (input_of l) (greatest_delay t.flat.arcs path)
IsOfElements t m = IsMember t m × (IsOfClock m → ⊥)

-- the timing of a corner, counted from 0
abbrev pub corner_of : Timing → List Timing → ℕ → Timing
corner_of t ts c = slice_index_or (t ∷ ts) c t

-- The member is one of the clock, under number 0, or one of a corner's elements, under the corner's number from 1.
abbrev pub IsOfCorner : Timing → List Timing → ℕ → Member → Type 0
IsOfCorner t ts zero m = IsOfClock m × IsMember (side_by_side t ts) m
IsOfCorner t ts (suc c) m = (c < length (t ∷ ts)) × IsOfElements (corner_of t ts c) m

-- Element l of corner c, counted from 0, of n elements each is number c * n + l of all.
abbrev pub among : Design → ℕ → ℕ → ℕ
among design c l = c * element_count design + l

-- the link of a member of corner c, counted from 0, among those of all
abbrev pub link_in : Timing → List Timing → ℕ → Member → Link
link_in t ts c (member.Opening l) = opening_link (side_by_side t ts).flat (among t.flat c l)
link_in t ts c (member.Opened l) = opened_link (side_by_side t ts).flat (among t.flat c l)
link_in t ts c (member.Reach j l path) = reach_link (side_by_side t ts).flat (among t.flat c j) (among t.flat c l)
    (greatest_delay (corner_of t ts c).flat.arcs path)
link_in t ts c (member.Setup l) = setup_link (side_by_side t ts).flat (among t.flat c l)
link_in t ts c m = link_of (side_by_side t ts).flat m

-- the link of a member under the number that it bears
abbrev pub link_of_corner : Timing → List Timing → ℕ → Member → Link
link_of_corner t ts zero m = link_of (side_by_side t ts).flat m
link_of_corner t ts (suc c) m = link_in t ts c m

-- the links of a list of members
abbrev pub links_of_corners : Timing → List Timing → List CornerMember → List Link
links_of_corners t ts members = map (λ m. link_of_corner t ts m.corner m.member) members

-- The members are the corners' and lead round in a ring.
pub record IsCornerRing (t : Timing) (ts : List Timing) (members : List CornerMember) : Type 0 where
  pub each : All (λ m. IsOfCorner t ts m.corner m.member) members
  pub closed : IsClosed (λ k. k.from) (λ k. k.to) (links_of_corners t ts members)

-- The schedule is right in each corner, and a ring shows that its cycle is the least; or a ring shows that none is.
abbrev pub IsCornerValid : Timing → List Timing → CornerCertificate → Type 0
IsCornerValid t ts (Least schedule departures chain) = AreJointlyRight (t ∷ ts) schedule departures
    × IsCornerRing t ts chain × IsTight (links_of_corners t ts chain) schedule.cycle schedule.den
IsCornerValid t ts (Never chain) = IsCornerRing t ts chain × IsStuck (links_of_corners t ts chain)

-- The cycle is the joint cycle of all corners; or no schedule is right in each.
abbrev pub IsCornerOptimal : Timing → List Timing → CornerCertificate → Type 0
IsCornerOptimal t ts (Least schedule departures chain) = AreJointlyRight (t ∷ ts) schedule departures
    × IsJointCycle (t ∷ ts) schedule.cycle schedule.den
IsCornerOptimal t ts (Never chain) = AreJointlyHopeless (t ∷ ts)

-- Of all solutions of the joint links at its cycle time, the schedule with the departures of each corner is the
-- earliest. The departure of a flop is 0, as it is exact.
abbrev pub HasJointEarliest : Timing → List Timing → CornerCertificate → Type 0
HasJointEarliest t ts (Least schedule departures chain) = IsEarliest (side_by_side t ts).flat
    (joint_links_of t ts) schedule (flat_map (λ d. d) departures)
HasJointEarliest t ts (Never chain) = Unit {0}

-- The chain enters no node twice.
abbrev pub EntersOnce : Timing → List Timing → List CornerMember → Type 0
EntersOnce t ts chain = AllPairs (λ a b. a.to ≢ b.to) (links_of_corners t ts chain)

-- Neither does that of a certificate, of either kind.
abbrev pub HasJointSimple : Timing → List Timing → CornerCertificate → Type 0
HasJointSimple t ts (Least schedule departures chain) = EntersOnce t ts chain
HasJointSimple t ts (Never chain) = EntersOnce t ts chain

-- The numbers of a member are counts.
abbrev pub IsCornerCounted : CornerMember → Type 0
IsCornerCounted m = IsCount m.corner × IsCounted m.member

-- from 1 to 32,768 members, each number of which is a count
pub record IsCornerChainInRange (chain : List CornerMember) : Type 0 where
  pub some : 1 ≤ length chain
  pub most : length chain ≤ MOST_MEMBERS
  pub each : All IsCornerCounted chain

-- the departures of a corner that a text can say
pub record AreDeparturesInRange (departures : List ℤ) : Type 0 where
  pub count : IsCount (length departures)
  pub each : All IsDeparture departures

-- a schedule, the departures of each of a few corners, and a chain that a text can say
pub record IsCornerLeastInRange (schedule : Schedule) (departures : List (List ℤ))
    (chain : List CornerMember) : Type 0 where
  pub schedule_in : IsInRange schedule
  pub count : IsCount (length departures)
  pub each : All AreDeparturesInRange departures
  pub chain_in : IsCornerChainInRange chain

-- The certificate's numbers are those that a text can say.
abbrev pub IsCornerInRange : CornerCertificate → Type 0
IsCornerInRange (Least schedule departures chain) = IsCornerLeastInRange schedule departures chain
IsCornerInRange (Never chain) = IsCornerChainInRange chain

-- What the certificate must be, of a first timing and the others.
pub record IsCornerOptimum (t : Timing) (ts : List Timing) (certificate : CornerCertificate) : Type 0 where
  pub valid : IsCornerValid t ts certificate
  pub optimal : IsCornerOptimal t ts certificate
  pub earliest : HasJointEarliest t ts certificate
  pub simple : HasJointSimple t ts certificate
  pub in_range : IsCornerInRange certificate

-- the same of a list of timings, of which there is one at least
abbrev pub IsOptimumOf : List Timing → CornerCertificate → Type 0
IsOptimumOf [] certificate = ⊥
IsOptimumOf (t ∷ ts) certificate = IsCornerOptimum t ts certificate
