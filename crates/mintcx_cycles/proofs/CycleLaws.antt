-- What is made of the test of one cycle time.
use Rattle.std.proofs.Common.{◌≡◌, ◌≤◌, ◌<◌, ℕ, ℤ, pos, ◌+ℤ◌, ◌*ℤ◌, List, arith, refl}
use Rattle.std.specs.List.{All}
use Rattle.std.proofs.lemmas.Int.{ints}
use Rattle.std.proofs.lemmas.List.{length-map}
use Rattle.mintc_fraction.specs.Ratio.{Ratio, over}
use Rattle.mintc_timing.specs.declared.link.Link.{Link}
use Rattle.mintc_timing.specs.declared.clocking.Schedule.{Schedule}
use Rattle.mintc_timing.specs.Design.{Timing}
use Rattle.mintc_timing.specs.Limits.{IsDesign}
use Rattle.mintc_timing.specs.Links.{links_of, element_node, node_count, cycles_of, delay_of, Forbids}
use Rattle.mintc_timing.specs.Order.{IsTiming}
use Rattle.mintc_timing.specs.Right.{IsRight}
use Rattle.mintc_timing.proofs.SharedByKind.{All-links}
use Rattle.mintc_timing.proofs.SharedLinkLaws.{ends_of}
use Rattle.mintc_timing.proofs.SharedMeetingLaws.{no_chain_forbids_right_lem}
use Rattle.mintc_fraction.proofs.SharedProducts.{times-assoc, add-times}
use Rattle.mintc_timing.proofs.SharedProducts.{times-mono_positive}
use Rattle.mintc_constraints.specs.Duality.{AreExactMoments, departures_of, schedule_of}
use Rattle.mintc_constraints.specs.Ordinary.{Constraints, constraints_of}
use Rattle.mintc_constraints.specs.Rooms.{Space}
use Rattle.mintc_constraints.proofs.SharedMomentLaws.{moments_are_right_lem}
use Rattle.mintc_constraints.proofs.SharedOrdinaryLaws.{each_between, ordinary}
use Rattle.mintc_ratio.specs.Chains.{NamesChain, links_at}
use Rattle.mintc_ratio.specs.Greatest.{AreGreatest}
use Rattle.mintc_ratio.specs.Tested.{HasTested}
use Rattle.mintc_ratio.specs.declared.testing.Test.{Test}
use Rattle.mintc_ratio.proofs.SharedBroughtLaws.{greatest_are_brought_lem}
use Rattle.mintc_ratio.proofs.SharedWholeCycles.{whole_cycle}
use Rattle.mintc_certificate.specs.declared.members.Member.{Member}
use Rattle.mintc_certificate.specs.Ranges.{IsChainInRange}
use Rattle.mintc_certificate.specs.Valid.{link_of, links_of_members}
use Rattle.mintc_optimise.specs.Making.{AreSayable, StandForAll}
use Rattle.mintc_optimise.proofs.SharedCertificateLaws.{IsRound, round}
use Rattle.mintc_optimise.proofs.SharedEarliestLaws.{earliest}
use Rattle.mintc_optimise.proofs.SharedSayingLaws.{are_sayable}
use Rattle.mintcx_cycles.specs.AtCycles.{IsRightAt, IsShortAt}

-- A test of the links of a design at a whole cycle time, as the design and the number say it.
pub tested_of : (t : Timing) (cycle : ℕ) (list : Constraints) (at : Ratio) (old new : Space) (test : Test) → list.nodes ≡ node_count t.flat → list.links ≡ links_of t → at ≡ over (pos cycle) (pos 1) →
    HasTested list at old new test → HasTested (constraints_of (node_count t.flat) (links_of t)) (over (pos cycle) (pos 1)) old new test
tested_of t cycle list at old new test nodes links is tested =
    let same : list ≡ constraints_of (node_count t.flat) (links_of t) = λ i. constraints_of (nodes i) (links i) in
    rw (is, same) at tested

module _ (t : Timing) (limits : IsDesign t.flat) (kept : IsTiming t.flat t.order t.pairs) (cycle : ℕ) (few : cycle ≤ 4294967295) where
  abbrev at : Ratio
  at = over (pos cycle) (pos 1)

  module _ (values : List ℤ) (g : AreGreatest (constraints_of (node_count t.flat) (links_of t)) at values) where
    from_below : All (λ (k : Link). k.from < node_count t.flat) (links_of t)
    from_below e d h = (All-links t (λ k. (k.from < node_count t.flat) × (k.to < node_count t.flat)) (each_between t limits (ends_of t kept.extremes)) e d h).0

    exact_moments : AreExactMoments t (pos cycle) (pos 1) values
    exact_moments = record {
      moments = record { count = g.count; origin = g.origin; met = g.met };
      latches = λ l h latch. greatest_are_brought_lem (constraints_of (node_count t.flat) (links_of t)) at values from_below g (element_node t.flat l) (omega arith) (λ e. omega arith);
    }

    -- The greatest values are moments that can be said,
    pub sayable : AreSayable t.flat values
    sayable = are_sayable t limits at (whole_cycle cycle few) values exact_moments

    -- and what is said of them is the earliest right schedule of the cycle time.
    pub right_at : (s : Schedule) (d : List ℤ) → s ≡ schedule_of t.flat (pos cycle) (pos 1) values → d ≡ departures_of t.flat values → IsRightAt t cycle s d
    right_at s d s_is d_is = rw (s_is, d_is) (record {
      cycle_is = refl;
      den_is = refl;
      right = moments_are_right_lem t (pos cycle) (pos 1) values limits (ends_of t kept.extremes) (whole_cycle cycle few).fraction exact_moments;
      earliest = earliest t limits (links_of t) at values (whole_cycle cycle few).lowest g;
    })

  module _ (chain : List ℕ) (named : NamesChain (links_of t) chain) (forbidden : Forbids (links_at (links_of t) chain) (pos cycle) (pos 1)) (members : List Member) (stand : StandForAll t (links_of t) chain members) where
    is_round : IsRound (links_of_members t.flat members)
    is_round = rw stand.same (round (node_count t.flat) (links_of t) chain (ordinary t limits kept) named)

    -- A chain that takes longer than its cycles leaves no right schedule of the cycle time, over no denominator.
    none_right : (s : Schedule) (d : List ℤ) → IsRight t s d → s.cycle ≡ pos cycle *ℤ s.den → ⊥
    none_right s d right same =
        let cycles = cycles_of (links_at (links_of t) chain) in
        let delay = delay_of (links_at (links_of t) chain) in
        let longer = times-mono_positive (cycles *ℤ pos cycle +ℤ pos 1) delay s.den (omega (arith, ints)) right.clock.den in
        let parts = add-times (cycles *ℤ pos cycle) (pos 1) s.den in
        let grouped = times-assoc cycles (pos cycle) s.den in
        let some = right.clock.den in
        no_chain_forbids_right_lem t s d (links_at (links_of t) chain) limits (ends_of t kept.extremes) right named.chain (rw same (omega (arith, ints)))

    pub short_at : IsShortAt t cycle members
    short_at = record {
      ring = (stand.each, is_round.closed);
      simple = record { listed = rw stand.same named.chain.listed; once = is_round.once };
      forbids = rw stand.same forbidden;
      none = none_right;
    }

    -- and has few members, whose numbers are counts.
    pub short_in_range : IsChainInRange members
    short_in_range =
        let ring = is_round in
        let count = length-map members (link_of t.flat) in
        record { some = omega arith; most = omega arith; each = stand.counted }
