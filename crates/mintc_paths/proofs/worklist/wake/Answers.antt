use Rattle.std.proofs.Common.{length, refl, subst, sym}
use Rattle.mintc_adjacency.specs.Adjacency.{AreLeft, CanGoOn}
use Rattle.mintc_adjacency.proofs.SharedAdjacencyLaws.{from_next}
use Rattle.mintc_timing.specs.Paths.{arc_at}
use Rattle.mintc_paths.proofs.worklist.wake.Goals as goal

pub loop-place-init : goal.loop-place-init
loop-place-init c =
    let along = c.args.sequence.now.along.items in
    let same = sym c.into_iter-place-iterator.ensures.into_iter_gives in
    let left : AreLeft (λ place. (arc_at along place).from) c.args.row (length along) c.into_iter-place-iterator.result =
    subst (λ edges. AreLeft (λ place. (arc_at along place).from) c.args.row (length along) edges) same
    (c.at-place-items.ensures.left (λ place. (arc_at along place).from) _ _ c.requires.leaving) in
    record {
      can = subst CanGoOn same c.at-place-items.ensures.falling;
      ends = tt;
      left = from_next (λ place. (arc_at along place).from) c.args.row (length along) c.into_iter-place-iterator.result left;
      inside = left.next.fits;
      count = refl;
      kept = λ k h. h;
      awake = λ k low high here. absurd (left.next.last k low high here);
    }
