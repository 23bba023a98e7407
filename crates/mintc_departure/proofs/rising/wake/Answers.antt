use Rattle.std.proofs.Common.{◌≡◌, ℕ, length, arith, refl, ◌∙◌, subst, sym}
use Rattle.mintc_bitset.specs.BitSet.{IsIn}
use Rattle.mintc_adjacency.specs.Adjacency.{AreLeft, CanGoOn}
use Rattle.mintc_adjacency.proofs.SharedAdjacencyLaws.{given, from_next, goes_on, met_more}
use Rattle.mintc_timing.specs.Design.{pair_at}
use Rattle.mintc_departure.proofs.rising.wake.Goals as goal

pub loop-number-init : goal.loop-number-init
loop-number-init c =
    let t = c.args.system.now in
    let same = sym c.into_iter-number-iterator.ensures.into_iter_gives in
    let left : AreLeft (λ n. (pair_at t n).from) c.args.element (length t.pairs) c.into_iter-number-iterator.result =
    subst (λ edges. AreLeft (λ n. (pair_at t n).from) c.args.element (length t.pairs) edges) same
    (c.at-number-items.ensures.left (λ n. (pair_at t n).from) _ _ c.requires.out) in
    record {
      can = subst CanGoOn same c.at-number-items.ensures.falling;
      ends = tt;
      left = from_next (λ n. (pair_at t n).from) c.args.element (length t.pairs) c.into_iter-number-iterator.result left;
      within = left.next.fits;
      count = refl;
      kept = λ k h. h;
      woken = λ n low high here. absurd (left.next.last n low high here);
    }

pub loop-number-preserved : goal.loop-number-preserved
loop-number-preserved c =
    let t = c.args.system.now in
    let so_far = c.loop-number.invariant in
    let step = c.in-Some.ensures.steps in
    let got = given (λ n. (pair_at t n).from) c.args.element c.loop-number.number-iterator.next _ c.loop-number.number-iterator _ so_far.left step in
    record {
      can = goes_on c.loop-number.number-iterator _ _ so_far.can step;
      ends = tt;
      left = from_next (λ n. (pair_at t n).from) c.args.element _ _ got.left;
      within = omega (arith, got.left.next.fits, got.below, so_far.within);
      count = c.insert.ensures.count ∙ so_far.count;
      kept = λ k h. c.insert.ensures.kept k (so_far.kept k h);
      woken = met_more (λ n. (pair_at t n).from) c.args.element (length t.pairs) _ _ (λ n. IsIn c.loop-number.stale.words.items (pair_at t n).to) (λ n. IsIn c.insert.new.self.words.items (pair_at t n).to)
          got.left.next (rw c.pair.ensures.value at c.insert.ensures.inserted) (λ n. c.insert.ensures.kept (pair_at t n).to) (λ n low high here. so_far.woken n (omega (arith, step.next)) high here);
    }
