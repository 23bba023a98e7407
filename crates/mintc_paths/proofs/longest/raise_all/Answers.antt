use Rattle.std.proofs.Common.{◌≡◌, ◌<◌, ◌∙◌, ℕ, length, arith}
use Rattle.std.proofs.lemmas.List.{get_or_default}
use Rattle.mintc_timing.specs.Design.{no_arc}
use Rattle.mintc_timing.specs.Paths.{arc_at}
use Rattle.mintc_paths.proofs.SharedPassing.{row_in, row_to_in, max_in}
use Rattle.mintc_paths.proofs.Raising.{IsRaised, row_low, row_high, raised_along}
use Rattle.mintc_paths.proofs.longest.raise_all.Goals as goal
use Rattle.mintc_paths.proofs.longest.raise_all.Goals.{After-index}

-- the arc that the loop reads
arc_is : (c : After-index) → c.index.result.now ≡ arc_at c.args.sequence.now.along.items c.loop-place.place
arc_is c = c.index.ensures ∙ get_or_default c.args.sequence.now.along.items c.loop-place.place c.index.result.now no_arc (omega (arith, c.args.sequence.now.along.ok.0))

pub raise-requires : goal.raise-requires
raise-requires c =
    let i : ℕ = c.loop-place.place in
    let low : i < length c.args.order.now = omega (arith, c.args.sequence.now.along.ok.0, c.requires.sequence.along.count) in
    let kept = c.requires.design in
    let inside = row_in c.args.flat.now c.args.order.now c.requires.order kept c.args.sequence.now (length c.args.sums.now) c.requires.sequence c.requires.bits i low in
    let inside_to = row_to_in c.args.flat.now c.args.order.now c.requires.order kept c.args.sequence.now (length c.args.sums.now) c.requires.sequence c.requires.bits i low in
    rw (arc_is (goal.at.raise-requires c).After-index) record {
      from = omega (arith, c.loop-place.invariant.count);
      to = omega (arith, c.loop-place.invariant.count);
      low = row_low c.args.flat.now c.args.order.now c.requires.order kept c.args.sequence.now (length c.args.sums.now) c.requires.sequence c.requires.bits c.loop-place.sums i low c.loop-place.invariant.carried;
      high = row_high c.args.flat.now c.args.order.now c.requires.order kept c.args.sequence.now (length c.args.sums.now) c.requires.sequence c.requires.bits c.loop-place.sums i low c.loop-place.invariant.carried;
      delay = max_in c.args.flat.now c.args.order.now c.requires.order kept c.args.sequence.now (length c.args.sums.now) c.requires.sequence c.requires.bits i low;
    }

pub loop-place-preserved : goal.loop-place-preserved
loop-place-preserved c =
    let i : ℕ = c.loop-place.place in
    let all = c.requires.sequence.along.count in
    let low : i < length c.args.order.now = omega (arith, c.args.sequence.now.along.ok.0) in
    let turn = (goal.at.loop-place-preserved c).After-index in
    let raised : IsRaised c.index.result.now c.loop-place.sums c.raise.new.sums =
    record { others = c.raise.ensures.others; kept = c.raise.ensures.kept; raised = c.raise.ensures.raised; limit = c.raise.ensures.limit } in
    record {
      count = c.raise.auto.sums ∙ c.loop-place.invariant.count;
      carried = raised_along c.args.flat.now c.args.order.now c.requires.order c.requires.design c.args.sequence.now (length c.args.sums.now) c.requires.sequence c.requires.bits
          c.loop-place.sums c.raise.new.sums i low (rw (arc_is turn) at raised) c.loop-place.invariant.carried;
    }
