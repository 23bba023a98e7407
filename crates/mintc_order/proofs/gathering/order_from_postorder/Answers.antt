use Rattle.std.proofs.Common.{◌≡◌, ◌+◌, ◌-◌, ℕ, get_or, subst, arith}
use Rattle.std.proofs.lemmas.List.{get_or_default}
use Rattle.mintc_order.proofs.GatheringLaws.{AreGathered, AreGathered-more, IsOrder-gathered}
use Rattle.mintc_order.proofs.gathering.order_from_postorder.Goals as goal

pub loop-rest-preserved : goal.loop-rest-preserved
loop-rest-preserved c =
    let rest : ℕ = c.loop-rest.rest - 1 in
    let back : c.loop-rest.rest ≡ rest + 1 = omega arith in
    let starts = c.args.ranges.now.starts.items in
    let bit : ℕ = get_or c.args.given.now rest 0 in
    let in_bits = c.requires.ordered.within rest (omega arith) in
    let start : c.index-start.result.now ≡ get_or starts bit 0 = omega (arith, get_or_default starts bit 0 c.index-start.result.now (omega arith)) in
    let stop : c.index.result.now ≡ get_or starts (bit + 1) 0 = omega (arith, get_or_default starts (bit + 1) 0 c.index.result.now (omega arith)) in
    let added = rw (c.deref.ensures.value, start, stop) at c.in_ok-add.ensures in
    record {
      rest = omega arith;
      gathered = AreGathered-more c.requires.parts c.requires.leaving c.requires.all c.requires.ordered
          (subst (λ (n : ℕ). AreGathered c.args.arcs.now c.args.given.now n c.loop-rest.gathered.items) back c.loop-rest.invariant.gathered) (omega arith) added;
    }

pub returns : goal.returns
returns c =
    let z : c.loop-rest.rest ≡ 0 = omega arith in
    IsOrder-gathered c.requires.parts c.requires.leaving c.requires.all c.requires.ordered c.loop-rest.gathered.items c.requires.whole
    (subst (λ (n : ℕ). AreGathered c.args.arcs.now c.args.given.now n c.loop-rest.gathered.items) z c.loop-rest.invariant.gathered)
