use Rattle.std.proofs.Common.{◌≢◌, ◌<◌, ◌+◌, ◌/◌, ◌%◌, IsTrue, ◌↔◌, false, length, get_or, set, length-set, get_or-set_same, get_or-set_other, arith, ◌∙◌}
use borrow.Author.Count.{below_more}
use Rattle.mintc_checker.proofs.Fed.{IsFed-from_places, IsFedFrom}
use Rattle.mintc_checker.proofs.schedule_tests.feeds_table.Goals as goal

pub loop-place-preserved : goal.loop-place-preserved
loop-place-preserved c =
    let fed = c.loop-place.fed in
    let n = c.loop-place.place in
    let i = c.loop-place.invariant in
    let inside : n < length fed = omega (arith, i.count) in
    record {
      count = length-set fed n c.feeds.result ∙ i.count;
      each = below_more (λ k. IsTrue (get_or (set fed n c.feeds.result) k false) ↔ IsFedFrom c.args.departing.now.flat.now c.args.labels.now (k / 8 + 1) (k % 8 + 1)) n
          (λ k lt. let ne : k ≢ n = omega arith in rw (get_or-set_other fed n k c.feeds.result false ne) (i.each k lt))
          (rw (get_or-set_same fed n c.feeds.result false inside) c.feeds.ensures);
    }

pub returns : goal.returns
returns c =
    let departing = c.args.departing.now in
    IsFed-from_places departing.flat.now departing.den departing.departures.now c.args.labels.now c.loop-place.fed c.requires.each c.loop-place.invariant.count (λ k below. c.loop-place.invariant.each k (omega arith))
