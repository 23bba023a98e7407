-- Where the search begins.
use Rattle.std.proofs.Common.{◌≡◌, ◌≤◌, ◌*◌, ◌+◌, ◌-◌, ◌^◌, ℕ, zero, suc, ℤ, pos, negsuc, ◌*ℤ◌, ◌<ℤ◌, arith, min}
use Rattle.std.proofs.lemmas.Int.{ints}
use Rattle.mintc_fraction.specs.Ratio.{Ratio, over}
use Rattle.mintc_timing.specs.Links.{delay_of, cycles_of}
use Rattle.mintc_constraints.specs.Ordinary.{Constraints, IsOrdinary}
use Rattle.mintc_constraints.specs.Rooms.{Space}
use Rattle.mintc_ratio.specs.declared.sums.Sums.{Sums}
use Rattle.mintc_ratio.specs.Chains.{NamesChain, links_at}
use Rattle.mintc_ratio.specs.Climbing.{IsHeld, IsClimbing, most_halvings, top_of}
use Rattle.mintc_ratio.specs.Greatest.{AreGreatest}
use Rattle.mintc_ratio.specs.Searched.{IsLeast}
use Rattle.mintc_ratio.specs.Tested.{NoneForbids}
use Rattle.mintc_ratio.proofs.ClimbLaws.{low_inside, high_top}
use Rattle.mintc_ratio.proofs.GridLaws.{all_tests, top_halved}
use Rattle.mintc_ratio.proofs.SharedWholeCycles.{whole_cycle}

-- The search begins with all halvings and one test left.
pub climbing-begun : (list : Constraints) → IsOrdinary list → (start begun : ℕ) (room : Space) (sums : Sums) (now : ℕ) → IsHeld list room sums → begun ≡ min start (2 ^ 64 - 1) → start ≤ now → now ≤ start + list.nodes + 1 →
    IsClimbing list start begun room sums (top_of list.nodes) (most_halvings list.nodes) now
climbing-begun list ordinary start begun room sums now is said later few =
    let high = high_top list ordinary in
    let small = top_halved list.nodes ordinary.nodes.1 in
    record {
      is_held = is;
      is_high = high;
      inside = omega (arith, ints);
      said = said;
      later = later;
      near = λ low floor. let inside = low_inside list room sums (top_of list.nodes) low is high floor in let from = inside.0 in omega (arith, ints);
      few = all_tests list.nodes start now few;
    }

-- The least cycle time is 0 where no chain forbids it.
pub least_rest : (list : Constraints) (at : Ratio) (old new : Space) → 1 ≤ list.nodes → at ≡ over (pos 0) (pos 1) → AreGreatest list at old.values → NoneForbids list.links at → new.values ≡ old.values →
    NamesChain list.links new.chain → delay_of (links_at list.links new.chain) ≡ pos 0 → cycles_of (links_at list.links new.chain) ≡ pos 1 → IsLeast list at new
least_rest list at old new some is greatest none values chain delay cycles = record {
  cycle_is = rw is (whole_cycle 0 (omega arith));
  small = rw is (omega (arith, ints), omega (arith, ints));
  none_forbids = none;
  values = rw values greatest;
  chain = chain;
  tight = rw is (record { turns = rw cycles (omega (arith, ints)); tight = rw (delay, cycles) (omega (arith, ints)) });
}
