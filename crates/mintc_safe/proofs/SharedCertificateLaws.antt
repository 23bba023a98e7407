-- What is made of the answer of a search over the safe links is a safe certificate.
use Rattle.std.proofs.Common.{◌≡◌, ℕ, ℤ, List, map, arith, sym, ◌∙◌}
use Rattle.std.specs.List.{All}
use Rattle.std.proofs.lemmas.List.{length-map}
use Rattle.std.proofs.lemmas.List.FromFn.{length-map-range_with_len}
use Rattle.std.proofs.lemmas.Simd.{map-map}
use Rattle.mintc_fraction.specs.Ratio.{Ratio}
use Rattle.mintc_timing.specs.declared.clocking.Schedule.{Schedule}
use Rattle.mintc_timing.specs.Design.{Timing, element_count}
use Rattle.mintc_timing.specs.Limits.{IsDesign, IsInRange}
use Rattle.mintc_timing.specs.Order.{IsTiming}
use Rattle.mintc_constraints.specs.Duality.{departure_of, departures_of, schedule_of}
use Rattle.mintc_timing.specs.Paths.{HasEnds}
use Rattle.mintc_constraints.specs.Ordinary.{Constraints, constraints_of}
use Rattle.mintc_timing.specs.Links.{link_at, node_count}
use Rattle.mintc_constraints.specs.Rooms.{Space}
use Rattle.mintc_timing.proofs.SharedLinkLaws.{ends_of}
use Rattle.mintc_ratio.specs.declared.searching.Outcome.TheVariants as outcome
use Rattle.mintc_ratio.specs.Chains.{NamesChain, links_at}
use Rattle.mintc_ratio.specs.Searched.{HasSearched, IsLeast}
use Rattle.mintc_certificate.specs.Ranges.{IsDeparture}
use Rattle.mintc_optimise.specs.Making.{AreSayable}
use Rattle.mintc_optimise.proofs.SharedCertificateLaws.{IsRound, round}
use Rattle.mintc_optimise.proofs.SharedEarliestLaws.{earliest}
use Rattle.mintc_optimise.proofs.SharedSayingLaws.{are_sayable}
use Rattle.mintc_safe.specs.declared.members.SafeMember.{SafeMember}
use Rattle.mintc_safe.specs.declared.certificate.SafeCertificate.TheVariants.{Least, Never}
use Rattle.mintc_safe.specs.Hold.{IsSafe, safe_links_of}
use Rattle.mintc_safe.specs.SafeOptimum.{bare, StandForAll, IsSafeChainInRange, IsSafeOptimum, IsSafeRing, link_of_safe, links_of_safe}
use Rattle.mintc_safe.proofs.BareLaws.{same_round, same_stuck, same_tight}
use Rattle.mintc_safe.proofs.SafeLaws.{exact, greatest_are_safe_lem, safe_links_are_ordinary_lem, stuck_is_hopeless_for_hold_lem, tight_is_safe_cycle_lem}

module _ (t : Timing) (limits : IsDesign t.flat) (kept : IsTiming t.flat t.order t.pairs) where
  abbrev list_of : Constraints
  list_of = constraints_of (node_count t.flat) (safe_links_of t)

  ends : HasEnds t
  ends = ends_of t kept.extremes

  module _ (chain : List ℕ) (named : NamesChain (safe_links_of t) chain) (members : List SafeMember) (stand : StandForAll t (safe_links_of t) chain members) where
    same : map bare (links_of_safe t.flat members) ≡ map bare (links_at (safe_links_of t) chain)
    same = map-map bare (link_of_safe t.flat) members ∙ stand.same ∙ sym (map-map bare (link_at (safe_links_of t)) chain)

    is_round : IsRound (links_of_safe t.flat members)
    is_round = same_round (links_of_safe t.flat members) (links_at (safe_links_of t) chain) same (round (node_count t.flat) (safe_links_of t) chain (safe_links_are_ordinary_lem t limits kept) named)

    ring : IsSafeRing t members
    ring = record { each = stand.each; closed = is_round.closed }

    chain_in : IsSafeChainInRange members
    chain_in =
        let round = is_round in
        let count = length-map members (link_of_safe t.flat) in
        record { some = omega arith; most = omega arith; each = stand.counted }

  module _ (room : Space) (cycle : Ratio) (found : IsLeast list_of cycle room) where
    abbrev s : Schedule
    s = schedule_of t.flat cycle.num cycle.den room.values

    abbrev d : List ℤ
    d = departures_of t.flat room.values

    pub sayable : AreSayable t.flat room.values
    sayable = are_sayable t limits cycle found.cycle_is room.values (exact t limits ends cycle room.values found.cycle_is.fraction found.values)

    is_safe : IsSafe t s d
    is_safe = greatest_are_safe_lem t cycle room.values limits ends found.cycle_is.fraction found.values

    -- what the code makes of the answer of a search
    pub made_least : (members : List SafeMember) (s' : Schedule) (d' : List ℤ) → StandForAll t (safe_links_of t) room.chain members → s' ≡ s → d' ≡ d → IsInRange s' → All IsDeparture d' → IsSafeOptimum t (Least s' d' members)
    made_least members s' d' stand s_is d_is schedule_in departures_in =
        let links = links_at (safe_links_of t) room.chain in
        let all = length-map-range_with_len (departure_of t.flat room.values) 0 (element_count t.flat) in
        rw (s_is, d_is) (record {
          valid = (is_safe, ring room.chain found.chain members stand, same_tight (links_of_safe t.flat members) links (same room.chain found.chain members stand) cycle.num cycle.den found.tight);
          optimal = (is_safe, tight_is_safe_cycle_lem t cycle room.values links limits ends found.cycle_is.fraction found.values found.chain.chain found.tight);
          earliest = earliest t limits (safe_links_of t) cycle room.values found.cycle_is.lowest found.values;
          simple = (is_round room.chain found.chain members stand).once;
          in_range = record { schedule_in = rw s_is at schedule_in; count = omega arith; each = rw d_is at departures_in; chain_in = chain_in room.chain found.chain members stand };
        })

  pub made_never : (room : Space) (members : List SafeMember) → HasSearched list_of room outcome.Never → StandForAll t (safe_links_of t) room.chain members → IsSafeOptimum t (Never members)
  made_never room members found stand =
      let links = links_at (safe_links_of t) room.chain in
      record {
        valid = (ring room.chain found.0 members stand, same_stuck (links_of_safe t.flat members) links (same room.chain found.0 members stand) found.1);
        optimal = stuck_is_hopeless_for_hold_lem t links limits ends found.0.chain found.1;
        earliest = tt;
        simple = (is_round room.chain found.0 members stand).once;
        in_range = chain_in room.chain found.0 members stand;
      }
