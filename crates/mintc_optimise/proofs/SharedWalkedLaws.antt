-- The values of greatest walks over the links of a design as moments, and as its earliest right schedule.
use Rattle.std.proofs.Common.{◌<◌, ℤ, List, arith}
use Rattle.std.specs.List.{All}
use Rattle.mintc_fraction.specs.Ratio.{Ratio}
use Rattle.mintc_timing.specs.declared.link.Link.{Link}
use Rattle.mintc_timing.specs.Design.{Timing}
use Rattle.mintc_timing.specs.Limits.{IsDesign}
use Rattle.mintc_timing.specs.Links.{links_of, element_node, IsChain, IsTight, node_count}
use Rattle.mintc_timing.specs.Right.{IsLeastCycle, IsRight}
use Rattle.mintc_constraints.specs.Duality.{AreExactMoments, departures_of, schedule_of}
use Rattle.mintc_timing.specs.Paths.{HasEnds}
use Rattle.mintc_constraints.specs.Ordinary.{constraints_of}
use Rattle.mintc_timing.proofs.SharedByKind.{All-links}
use Rattle.mintc_constraints.proofs.SharedChainLaws.{tight_is_least_lem}
use Rattle.mintc_constraints.proofs.SharedMomentLaws.{moments_are_right_lem}
use Rattle.mintc_constraints.proofs.SharedOrdinaryLaws.{each_between}
use Rattle.mintc_ratio.specs.Greatest.{AreGreatest}
use Rattle.mintc_ratio.specs.Searched.{IsCycle}
use Rattle.mintc_ratio.proofs.SharedBroughtLaws.{greatest_are_brought_lem}
use Rattle.mintc_optimise.specs.Making.{AreSayable}
use Rattle.mintc_optimise.specs.Optimum.{IsEarliest}
use Rattle.mintc_optimise.proofs.SharedEarliestLaws.{earliest}
use Rattle.mintc_optimise.proofs.SharedSayingLaws.{are_sayable}

-- what they are at a cycle time of the search that a chain of the links takes exactly
pub record AreLeast (t : Timing) (at : Ratio) (values : List ℤ) : Type 0 where
  pub least : IsLeastCycle t at.num at.den
  pub right : IsRight t (schedule_of t.flat at.num at.den values) (departures_of t.flat values)
  pub sayable : AreSayable t.flat values
  pub earliest : IsEarliest t.flat (links_of t) (schedule_of t.flat at.num at.den values) (departures_of t.flat values)

module _ (t : Timing) (limits : IsDesign t.flat) (ends : HasEnds t) (at : Ratio) (values : List ℤ) (g : AreGreatest (constraints_of (node_count t.flat) (links_of t)) at values) where
  from_below : All (λ (k : Link). k.from < node_count t.flat) (links_of t)
  from_below e d h = (All-links t (λ k. (k.from < node_count t.flat) × (k.to < node_count t.flat)) (each_between t limits ends) e d h).0

  exact_moments : AreExactMoments t at.num at.den values
  exact_moments = record {
    moments = record { count = g.count; origin = g.origin; met = g.met };
    latches = λ l h latch. greatest_are_brought_lem (constraints_of (node_count t.flat) (links_of t)) at values from_below g (element_node t.flat l) (omega arith) (λ e. omega arith);
  }

  pub are_least : IsCycle at → (chain : List Link) → IsChain (links_of t) chain → IsTight chain at.num at.den → AreLeast t at values
  are_least is chain of_it tight = record {
    least = tight_is_least_lem t at.num at.den values chain limits ends is.fraction exact_moments of_it tight;
    right = moments_are_right_lem t at.num at.den values limits ends is.fraction exact_moments;
    sayable = are_sayable t limits at is values exact_moments;
    earliest = earliest t limits (links_of t) at values is.lowest g;
  }
