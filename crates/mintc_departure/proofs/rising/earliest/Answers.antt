use Rattle.std.proofs.Common.{◌≡◌, ℕ, length, arith, subst, sym, to_z, of_z}
use Rattle.std.proofs.lemmas.Int.{ints, clamps}
use Rattle.std.specs.Int.{w128, int_min}
use Rattle.mintc_adjacency.specs.Adjacency.{AreLeft, CanGoOn}
use Rattle.mintc_adjacency.proofs.SharedAdjacencyLaws.{given, from_next, goes_on}
use Rattle.mintc_timing.specs.Departures.{early_arrival}
use Rattle.mintc_timing.specs.Design.{pair_at}
use Rattle.mintc_departure.specs.Rounds.{IsArrivalSum}
use Rattle.mintc_departure.proofs.IntoLaws.{into-none, into-more}
use Rattle.mintc_departure.proofs.rising.earliest.Goals as goal

pub loop-number-init : goal.loop-number-init
loop-number-init c =
    let t = c.args.clocked.now.system.now in
    let same = sym c.into_iter-number-iterator.ensures.into_iter_gives in
    let left : AreLeft (λ n. (pair_at t n).to) c.args.element (length t.pairs) c.into_iter-number-iterator.result =
    subst (λ edges. AreLeft (λ n. (pair_at t n).to) c.args.element (length t.pairs) edges) same
    (c.at-number-items.ensures.left (λ n. (pair_at t n).to) _ _ c.requires.into) in
    record {
      can = subst CanGoOn same c.at-number-items.ensures.falling;
      ends = tt;
      left = from_next (λ n. (pair_at t n).to) c.args.element (length t.pairs) c.into_iter-number-iterator.result left;
      within = left.next.fits;
      first = into-none (early_arrival t.flat c.args.clocked.now.schedule.now c.args.departures.now) t.pairs c.args.element _ left.next;
    }

pub loop-number-preserved : goal.loop-number-preserved
loop-number-preserved c =
    let t = c.args.clocked.now.system.now in
    let f = early_arrival t.flat c.args.clocked.now.schedule.now c.args.departures.now in
    let so_far = c.loop-number.invariant in
    let step = c.in-Some.ensures.steps in
    let got = given (λ n. (pair_at t n).to) c.args.element c.loop-number.number-iterator.next _ c.loop-number.number-iterator _ so_far.left step in
    let before = to_z w128 c.loop-number.first-bits in
    let range = rw c.arrival.ensures.value at c.arrival.ensures.range in
    record {
      can = goes_on c.loop-number.number-iterator _ _ so_far.can step;
      ends = tt;
      left = from_next (λ n. (pair_at t n).to) c.args.element _ _ got.left;
      within = omega (arith, got.left.next.fits, got.below, so_far.within);
      first = into-more f t.pairs c.args.element _ _ before _ (omega (arith, got.below, so_far.within)) got.there got.left.next range
          (omega (arith, ints, clamps, c.min-first.ensures.value, c.from-time.ensures)) (rw step.next at so_far.first);
    }
