-- A valid certificate shows the least cycle, or that there is none.
use Rattle.std.proofs.Common.{ℤ, ◌≤ℤ◌, ◌*ℤ◌, List, arith, refl}
use Rattle.std.proofs.lemmas.Int.{ints}
use Rattle.std.proofs.lemmas.List.Elements.{All-map}
use Rattle.mintc_timing.specs.declared.clocking.Schedule.{Schedule}
use Rattle.mintc_certificate.specs.declared.members.Member.{Member}
use Rattle.mintc_certificate.specs.declared.members.Member.TheVariants as member
use Rattle.mintc_certificate.specs.declared.certificate.Certificate.TheVariants.{Least, Never}
use Rattle.mintc_timing.specs.Design.{Timing}
use Rattle.mintc_timing.specs.Limits.{IsDesign}
use Rattle.mintc_timing.specs.Paths.{ArePairs}
use Rattle.mintc_timing.specs.Right.{IsRight, IsLeastCycle, IsHopeless}
use Rattle.mintc_timing.specs.Links.{delay_of, cycles_of}
use Rattle.mintc_timing.specs.Times.{Meets, node_time}
use Rattle.mintc_certificate.specs.Valid.{IsMember, link_of, links_of_members, IsRing, IsValid, clock, bounds, departures, setups, ring, sums, no_bound}
use Rattle.mintc_certificate.specs.Optimal.{ValidIsOptimal}
use Rattle.mintc_timing.proofs.SharedLinkLaws.{meets-start, meets-cycle, meets-order, meets-span, meets-width, meets-apart, meets-open, meets-opened, meets-reach, meets-setup, meets-bound}
use Rattle.mintc_timing.proofs.SharedChains.{ring-at_most, no_less}
use Rattle.mintc_timing.proofs.SharedDeterminedLaws.{forbids_all_lem}

module _ (t : Timing) (limits : IsDesign t.flat) (pairs_are : ArePairs t.flat t.pairs) where
  -- Each member's link holds of every right schedule.
  meets-member : (s : Schedule) (d : List ℤ) → IsRight t s d → (m : Member) → IsMember t m → Meets t.flat s d (link_of t.flat m)
  meets-member s d right (member.Start p) h = meets-start t s d limits right p h
  meets-member s d right (member.Cycle p) h = meets-cycle t s d limits right p h
  meets-member s d right (member.Order p) h = meets-order t s d limits right p h.0 h.1
  meets-member s d right (member.Span p) h = meets-span t s d limits right p h
  meets-member s d right (member.Width p) h = meets-width t s d limits right p h
  meets-member s d right (member.Apart i j) h = meets-apart t s d limits right i j h.0 h.1 h.2
  meets-member s d right (member.Opening l) h = meets-open t s d limits right l h
  meets-member s d right (member.Opened l) h = meets-opened t s d limits right l h.0 h.1
  meets-member s d right (member.Reach j l path) h = meets-reach t s d limits right pairs_are j l path h.0 h.1 h.2
  meets-member s d right (member.Setup l) h = meets-setup t s d limits right l h
  meets-member s d right (member.Bound n) h = meets-bound t s d limits right n no_bound h

  -- A ring asks no more time of a right schedule than its cycles have.
  ring-of_right : (s : Schedule) (d : List ℤ) → IsRight t s d → (ms : List Member) → IsRing t ms →
      (delay_of (links_of_members t.flat ms) *ℤ s.den) ≤ℤ (cycles_of (links_of_members t.flat ms) *ℤ s.cycle)
  ring-of_right s d right ms is_ring =
      ring-at_most s.cycle s.den (node_time t.flat s d) (links_of_members t.flat ms)
      (All-map (Meets t.flat s d) (link_of t.flat) ms (λ k e h. meets-member s d right _ (is_ring.0 k e h)))
      is_ring.1

  -- A valid certificate without a schedule shows that no schedule is right.
  pub hopeless-by : (ms : List Member) → IsValid t (Never ms) → IsHopeless t
  hopeless-by ms valid s d right =
      let asked = ring-of_right s d right ms (valid ring) in
      let more = forbids_all_lem (links_of_members t.flat ms) s.cycle s.den (valid sums) right.clock.den in
      omega (arith, ints)

  -- A valid certificate with a schedule has a right one, and its cycle is the least.
  pub right-by : (s : Schedule) (d : List ℤ) (ms : List Member) → IsValid t (Least s d ms) → IsRight t s d
  right-by s d ms valid = record { clock = valid clock; bounds = valid bounds; exact = valid departures; setup = valid setups }

  pub least-by : (s : Schedule) (d : List ℤ) (ms : List Member) → IsValid t (Least s d ms) → IsLeastCycle t s.cycle s.den
  least-by s d ms valid = record {
    positive = (valid clock).den;
    attained = (s, d, right-by s d ms valid, refl);
    least = λ s' d' right'.
        no_less (delay_of (links_of_members t.flat ms)) (cycles_of (links_of_members t.flat ms)) s.cycle s.den s'.cycle s'.den
        (valid clock).den (valid sums).turns (valid sums).tight (ring-of_right s' d' right' ms (valid ring));
  }

pub valid_is_optimal_lem : ValidIsOptimal
valid_is_optimal_lem t (Least s d ms) limits pairs_are valid = (right-by t limits pairs_are s d ms valid, least-by t limits pairs_are s d ms valid)
valid_is_optimal_lem t (Never ms) limits pairs_are valid = hopeless-by t limits pairs_are ms valid
