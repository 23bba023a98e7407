-- What a search over a design's links says of the design.
use Rattle.std.proofs.Common.{◌≡◌, ◌≤◌, ℤ, pos, negsuc, ◌≤ℤ◌, List, length, arith, refl, subst, unsigned_abs}
use Rattle.std.proofs.lemmas.Int.{ints}
use Rattle.std.specs.List.{All}
use Rattle.mintc_text.specs.declared.limits.TheConstants.{SHORT_NODES}
use Rattle.mintc_fraction.specs.Ratio.{Ratio, IsModest}
use Rattle.mintc_graph_walks.specs.Walks.{value_at}
use Rattle.mintc_timing.specs.declared.link.Link.{Link}
use Rattle.mintc_timing.specs.Design.{Timing}
use Rattle.mintc_timing.specs.Limits.{IsDesign}
use Rattle.mintc_timing.specs.Links.{IsChain, links_of, IsMet, IsStuck}
use Rattle.mintc_timing.specs.Right.{IsHopeless, IsLeastCycle}
use Rattle.mintc_timing.specs.Paths.{HasEnds}
use Rattle.mintc_constraints.specs.Ordinary.{Constraints, IsOrdinary}
use Rattle.mintc_constraints.specs.Rooms.{Space}
use Rattle.mintc_timing.specs.Times.{node_time}
use Rattle.mintc_timing.proofs.SharedMeetingLaws.{right_meets_links_lem}
use Rattle.mintc_constraints.proofs.SharedChainLaws.{met_chains_fit_lem, stuck_is_hopeless_lem, tight_fits_no_less_lem}
use Rattle.mintc_constraints.proofs.SharedExistenceLaws.{feasible_has_right_lem}
use Rattle.mintc_ratio.specs.Chains.{NamesChain, links_at}
use Rattle.mintc_ratio.specs.Searched.{IsCycle, IsLeast}
use Rattle.mintc_ratio.specs.Sums.{most_delay}
use Rattle.mintc_slack.specs.Short.{IsShortCycle}
use Rattle.mintc_ratio.proofs.SharedSumsLaws.{few_links}

pub is_modest : (cycle : Ratio) → IsCycle cycle → IsModest cycle
is_modest cycle is = record { num = abs_low cycle.num is.low is.num; den = (let most = is.den in omega (arith, ints)) }
  where
    abs_low : (x : ℤ) → pos 0 ≤ℤ x → x ≤ℤ most_delay → unsigned_abs x ≤ 1000000000000000000000000
    abs_low (pos n) low high = omega (arith, ints)
    abs_low (negsuc n) low high = absurd (omega (arith, ints))

-- At the least cycle of a list of few nodes sums are small.
pub is_short : (list : Constraints) (cycle : Ratio) (room : Space) → IsLeast list cycle room → list.nodes ≤ SHORT_NODES → IsShortCycle cycle
is_short list cycle room found few =
    let num = found.small.0 in
    let den = found.small.1 in
    record {
      fraction = found.cycle_is.fraction;
      lowest = found.cycle_is.lowest;
      low = found.cycle_is.low;
      num = omega (arith, ints, num, few);
      den = omega (arith, ints, den, few);
    }

module _ (t : Timing) (limits : IsDesign t.flat) (ends : HasEnds t) (list : Constraints) (links_are : list.links ≡ links_of t) (room : Space) where
  pub least_of : (cycle : Ratio) → IsLeast list cycle room → IsLeastCycle t cycle.num cycle.den
  least_of cycle found =
      let positive = found.cycle_is.fraction in
      let met = subst (λ (ks : List Link). All (IsMet cycle.num cycle.den (value_at room.values)) ks) links_are found.values.met in
      let right = feasible_has_right_lem t cycle.num cycle.den (λ node. value_at room.values node) limits ends positive met in
      let chain = subst (λ (ks : List Link). IsChain ks (links_at list.links room.chain)) links_are found.chain.chain in
      record {
        positive = positive;
        attained = (right.0, right.1, right.2, rw (right.3, right.4) refl);
        least = λ s d other.
            tight_fits_no_less_lem (links_at list.links room.chain) cycle.num cycle.den s.cycle s.den positive found.tight
            (met_chains_fit_lem s.cycle s.den (node_time t.flat s d) (links_of t) (links_at list.links room.chain) (right_meets_links_lem t s d limits ends other) chain);
      }

  pub hopeless_of : NamesChain list.links room.chain → IsStuck (links_at list.links room.chain) → IsHopeless t
  hopeless_of named stuck =
      stuck_is_hopeless_lem t (links_at list.links room.chain) limits ends (subst (λ (ks : List Link). IsChain ks (links_at list.links room.chain)) links_are named.chain) stuck

pub few_in_chain : (list : Constraints) → IsOrdinary list → (room : Space) → NamesChain list.links room.chain → length room.chain ≤ list.nodes
few_in_chain list all room named = few_links list.nodes list.links all room.chain named
