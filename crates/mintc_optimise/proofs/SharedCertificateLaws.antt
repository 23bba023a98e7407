-- What is made of the answer of a search over a design's links is a certificate.
use Rattle.std.proofs.Common.{◌+◌, ◌≡◌, ◌≢◌, ℕ, ◌≤◌, ℤ, List, [], ◌∷◌, length, arith, ap, sym, ◌∙◌}
use Rattle.std.specs.List.{All, AllPairs}
use Rattle.std.proofs.lemmas.List.{length-map, get_or-map}
use Rattle.std.proofs.lemmas.List.FromFn.{length-map-range_with_len}
use Rattle.mintc_text.specs.declared.limits.TheConstants.{MOST_MEMBERS}
use Rattle.mintc_fraction.specs.Ratio.{Ratio}
use Rattle.mintc_timing.specs.declared.link.Link.{Link}
use Rattle.mintc_timing.specs.declared.clocking.Schedule.{Schedule}
use Rattle.mintc_graph.specs.Rings.{IsClosed}
use Rattle.mintc_timing.specs.Design.{Timing, element_count}
use Rattle.mintc_timing.specs.Limits.{IsDesign, IsInRange}
use Rattle.mintc_timing.specs.Links.{links_of, link_at, node_count}
use Rattle.mintc_timing.specs.Order.{IsTiming}
use Rattle.mintc_timing.specs.Right.{IsRight}
use Rattle.mintc_constraints.specs.Duality.{departure_of, departures_of, schedule_of}
use Rattle.mintc_constraints.specs.Ordinary.{Constraints, IsOrdinary, constraints_of}
use Rattle.mintc_constraints.specs.Rooms.{Space}
use Rattle.mintc_constraints.proofs.SharedOrdinaryLaws.{ordinary}
use Rattle.mintc_timing.proofs.SharedLinkLaws.{ends_of}
use Rattle.mintc_ratio.specs.declared.searching.Outcome.TheVariants as outcome
use Rattle.mintc_ratio.specs.Chains.{NamesChain, links_at}
use Rattle.mintc_ratio.specs.Searched.{HasSearched, IsLeast}
use Rattle.mintc_ratio.proofs.SharedSumsLaws.{few_links}
use Rattle.mintc_certificate.specs.declared.members.Member.{Member}
use Rattle.mintc_certificate.specs.declared.certificate.Certificate.{Certificate}
use Rattle.mintc_certificate.specs.declared.certificate.Certificate.TheVariants.{Least, Never}
use Rattle.mintc_certificate.specs.Optimal.{IsOptimal}
use Rattle.mintc_certificate.specs.Ranges.{IsCertificateInRange, IsChainInRange, IsDeparture}
use Rattle.mintc_certificate.specs.Valid.{IsRing, IsValid, chain_of, counts, clock, bounds, departures, setups, ring, sums, SchedulePasses, Test, link_of, links_of_members}
use Rattle.mintc_optimise.specs.Bounded.{CertifiesNeverOnlyWithBounds}
use Rattle.mintc_optimise.specs.Making.{AreSayable, StandForAll}
use Rattle.mintc_optimise.specs.Optimum.{HasEarliest, HasSimple, IsSimple}
use Rattle.mintc_optimise.proofs.SolvedLaws.{solved}
use Rattle.mintc_optimise.proofs.UnboundedLaws.{never_needs_a_bound_lem}
use Rattle.mintc_optimise.proofs.SharedWalkedLaws.{AreLeast, are_least}

-- what a certificate must be
pub record IsAnswer (t : Timing) (certificate : Certificate) : Type 0 where
  pub valid : IsValid t certificate
  pub optimal : IsOptimal t certificate
  pub earliest : HasEarliest t certificate
  pub simple : HasSimple t certificate
  pub bounded : CertifiesNeverOnlyWithBounds t.flat certificate
  pub in_range : IsCertificateInRange certificate
  pub short : length (chain_of certificate) ≤ element_count t.flat + 17

-- Links that lead round, enter no node twice, and are from 1 to as many as a certificate can say.
pub record IsRound (ks : List Link) : Type 0 where
  pub closed : IsClosed (λ (k : Link). k.from) (λ (k : Link). k.to) ks
  pub once : AllPairs (λ (a b : Link). a.to ≢ b.to) ks
  pub some : 1 ≤ length ks
  pub most : length ks ≤ MOST_MEMBERS

some_closed : (ks : List Link) → IsClosed (λ (k : Link). k.from) (λ (k : Link). k.to) ks → 1 ≤ length ks
some_closed [] h = absurd h
some_closed (k ∷ ks) h = omega arith

-- The links that a search over any ordinary links names do so.
pub round : (nodes : ℕ) (links : List Link) (chain : List ℕ) → IsOrdinary (constraints_of nodes links) → NamesChain links chain → IsRound (links_at links chain)
round nodes links chain all named =
    let count = length-map chain (link_at links) in
    let few = few_links nodes links all chain named in
    let most = all.nodes.1 in
    record {
      closed = named.chain.closed;
      once = λ i j k less inside e.
          named.once i j 0 less (omega arith) (ap (λ (x : Link). x.to) (sym (get_or-map (link_at links) chain i 0 k (omega arith))) ∙ e ∙ ap (λ (x : Link). x.to) (get_or-map (link_at links) chain j 0 k (omega arith)));
      some = some_closed (links_at links chain) named.chain.closed;
      most = omega arith;
    }

module _ (t : Timing) (limits : IsDesign t.flat) (kept : IsTiming t.flat t.order t.pairs) where
  abbrev list : Constraints
  list = constraints_of (node_count t.flat) (links_of t)

  module _ (chain : List ℕ) (named : NamesChain (links_of t) chain) (members : List Member) (stand : StandForAll t (links_of t) chain members) where
    is_round : IsRound (links_of_members t.flat members)
    is_round = rw stand.same (round (node_count t.flat) (links_of t) chain (ordinary t limits kept) named)

    is_ring : IsRing t members
    is_ring = (stand.each, is_round.closed)

    simple : IsSimple t members
    simple = record { listed = rw stand.same named.chain.listed; once = is_round.once }

    -- It has no more members than the design has nodes.
    short : length members ≤ element_count t.flat + 17
    short =
        let count = length-map members (link_of t.flat) in
        let same : length (links_of_members t.flat members) ≡ length (links_at (links_of t) chain) = ap (λ (ks : List Link). length ks) stand.same in
        let numbers = length-map chain (link_at (links_of t)) in
        let few = few_links (node_count t.flat) (links_of t) (ordinary t limits kept) chain named in
        let phases = limits.phases.1 in
        omega (arith, count, same, numbers, few, phases)

    chain_in : IsChainInRange members
    chain_in =
        let round = is_round in
        let count = length-map members (link_of t.flat) in
        record { some = omega arith; most = omega arith; each = stand.counted }

  right_passes : (s : Schedule) (d : List ℤ) → IsRight t s d → (test : Test) → SchedulePasses t s d test
  right_passes s d right counts = (right.clock.starts, right.clock.widths, right.exact.count)
  right_passes s d right clock = right.clock
  right_passes s d right bounds = right.bounds
  right_passes s d right departures = right.exact
  right_passes s d right setups = right.setup
  right_passes s d right test = tt

  module _ (room : Space) (cycle : Ratio) (found : IsLeast list cycle room) where
    abbrev s : Schedule
    s = schedule_of t.flat cycle.num cycle.den room.values

    abbrev d : List ℤ
    d = departures_of t.flat room.values

    here : AreLeast t cycle room.values
    here = are_least t limits (ends_of t kept.extremes) cycle room.values found.values found.cycle_is (links_at (links_of t) room.chain) found.chain.chain found.tight

    pub sayable : AreSayable t.flat room.values
    sayable = here.sayable

    valid : (members : List Member) → StandForAll t (links_of t) room.chain members → IsValid t (Least s d members)
    valid members stand ring = is_ring room.chain found.chain members stand
    valid members stand sums = rw stand.same found.tight
    valid members stand test = right_passes s d here.right test

    -- what the code makes of the answer
    pub made_least : (members : List Member) (s' : Schedule) (d' : List ℤ) → StandForAll t (links_of t) room.chain members → s' ≡ s → d' ≡ d → IsInRange s' → All IsDeparture d' → IsAnswer t (Least s' d' members)
    made_least members s' d' stand s_is d_is schedule_in departures_in =
        let all = length-map-range_with_len (departure_of t.flat room.values) 0 (element_count t.flat) in
        rw (s_is, d_is) (record {
          valid = valid members stand;
          optimal = (here.right, here.least);
          earliest = here.earliest;
          simple = simple room.chain found.chain members stand;
          bounded = tt;
          in_range = record { schedule_in = rw s_is at schedule_in; count = omega arith; each = rw d_is at departures_in; chain_in = chain_in room.chain found.chain members stand };
          short = short room.chain found.chain members stand;
        })

  module _ (room : Space) (members : List Member) (found : HasSearched list room outcome.Never) (stand : StandForAll t (links_of t) room.chain members) where
    valid_never : IsValid t (Never members)
    valid_never ring = is_ring room.chain found.0 members stand
    valid_never sums = rw stand.same found.1
    valid_never test = tt

    pub made_never : IsAnswer t (Never members)
    made_never =
        let hopeless = solved t limits (ends_of t kept.extremes) room outcome.Never found in
        record {
          valid = valid_never;
          optimal = hopeless;
          earliest = tt;
          simple = simple room.chain found.0 members stand;
          bounded = never_needs_a_bound_lem t limits kept hopeless;
          in_range = chain_in room.chain found.0 members stand;
          short = short room.chain found.0 members stand;
        }
