-- what a search of the network gives, as departures or as a loop
use Rattle.std.proofs.Common.{◌≡◌, ℕ, ◌<◌, ℤ, pos, List, length, arith}
use Rattle.std.proofs.lemmas.Int.{ints}
use Rattle.std.proofs.lemmas.List.{take_all}
use Rattle.std.proofs.lemmas.List.Elements.{All-from_get_or}
use Rattle.std.specs.List.{All}
use Rattle.mintc_graph_walks.specs.Walks.{value_at}
use Rattle.mintc_graph_walks.specs.Answers.{HasGreatest, HasChain}
use Rattle.mintc_timing.specs.declared.clocking.Schedule.{Schedule}
use Rattle.mintc_timing.specs.Design.{Timing, element_count}
use Rattle.mintc_timing.specs.Departures.{departure, AreExact, AreLate}
use Rattle.mintc_timing.specs.Violations.{HasLoop}
use Rattle.mintc_departure.specs.Clocked.{IsClocked}
use Rattle.mintc_departure.specs.Networks.{late_start_of, arcs_of}
use Rattle.mintc_departure.specs.Settled.{IsSum}
use Rattle.mintc_departure.proofs.NetworkLaws.{exact-meets, greatest-late}
use Rattle.mintc_departure.proofs.LateSizes.{late-within}
use Rattle.mintc_departure.proofs.LoopLaws.{loop-from_chain}

module _ (t : Timing) (s : Schedule) (fits : IsClocked t s) (starts : List ℤ) (count : length starts ≡ element_count t.flat) (each : (l : ℕ) → l < element_count t.flat → value_at starts l ≡ late_start_of t.flat s l) where
  pub sums : (values : List ℤ) → length values ≡ length starts → HasGreatest (arcs_of t s) starts values → (l : ℕ) → l < length values → IsSum (value_at values l)
  sums values same g l h =
      let w = late-within t s fits values (greatest-late t s fits starts count each values same g) l (rw (same, count) at h) in
      (omega (arith, ints), omega (arith, ints))

  pub settled-from_greatest : (values late : List ℤ) → length values ≡ length starts → HasGreatest (arcs_of t s) starts values → late ≡ values → AreLate t s late × All IsSum late
  settled-from_greatest values late same g is =
      rw is (greatest-late t s fits starts count each values same g, All-from_get_or IsSum values (pos 0) (sums values same g))

  pub loop-from_walk : (chain : List ℕ) (len : ℕ) → length chain ≡ len → HasChain (arcs_of t s) starts chain len →
      ((amount : ℤ) × HasLoop t s chain amount) × ((d : List ℤ) → AreExact t s d → ⊥)
  loop-from_walk chain len whole h =
      (loop-from_chain t s chain (rw (take_all len chain (omega arith)) at h.positive), λ d exact. h.unmet (departure d) (exact-meets t s d exact fits.timing.extremes.each))
