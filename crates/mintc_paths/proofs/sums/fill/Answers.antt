use Rattle.std.proofs.Common.{◌≡◌, ◌<◌, ◌≤◌, ◌+◌, ◌∙◌, ℕ, length, arith}
use Rattle.std.proofs.lemmas.List.{get_or_default}
use Rattle.mintc_timing.specs.Design.{no_arc}
use Rattle.mintc_timing.specs.Paths.{arc_at}
use Rattle.mintc_paths_sums.specs.Placed.{placed}
use Rattle.mintc_paths_sums.proofs.SharedPlaced.{length-placed}
use Rattle.mintc_paths.specs.Worklist.{IsAwake}
use Rattle.mintc_paths.specs.Sums.{AreSums}
use Rattle.mintc_paths.proofs.Filling.{IsCarried}
use Rattle.mintc_paths.proofs.SharedPassing.{IsSmallAt, ends_small, carried_along, passed_next, at_place, at_end, row_in, row_to_in, rows_differ, min_in, max_in}
use Rattle.mintc_paths.proofs.Reaching.{AreExtremes-from_sums}
use Rattle.mintc_paths.proofs.sums.fill.Given.{Over}
use Rattle.mintc_paths.proofs.sums.fill.Goals as goal
use Rattle.mintc_paths.proofs.sums.fill.Goals.{After-index-arc}
use Rattle.mintc_paths.proofs.SharedWaking.{IsAwake-later, IsAwake-next}

pub loop-place-init : goal.loop-place-init
loop-place-init g c =
    let begun = c.in_ok-clear.ensures.begun g.of.design.arcs g.of.order in
    record {
      sums_so_far = passed_next g.of.design g.of.order c.requires.0.is_ordered.order c.requires.0.is_ordered.kept c.args.sequence.now (length c.args.sums.now) c.requires.0.is_sequence c.requires.0.bits
          c.args.first c.args.lanes c.requires.1.0 c.clear.new.sums c.in_ok-clear.ensures.count c.clear.new.reached c.in_ok-clear.ensures.marked c.clear.new.awake 0 c.next-place.result (omega arith)
          (omega arith) c.in_ok-clear.ensures.awake c.next-place.ensures.none begun.sums_so_far;
      marked = c.in_ok-clear.ensures.marked;
      awake = IsAwake-later c.args.sequence.now.along.items 0 c.next-place.result c.clear.new.reached c.clear.new.awake (omega arith) c.in_ok-clear.ensures.awake;
      count = c.in_ok-clear.ensures.count;
    }

-- the arc that the loop reads
arc_is : (g : Over) (c : After-index-arc g) → c.index-arc.result.now ≡ arc_at c.args.sequence.now.along.items c.loop-place.place
arc_is g c = c.index-arc.ensures ∙ get_or_default c.args.sequence.now.along.items c.loop-place.place c.index-arc.result.now no_arc (omega (arith, c.args.sequence.now.along.ok.0))

-- the sums along the arcs before it
so_far : (g : Over) (c : After-index-arc g) → AreSums g.of.design.arcs g.of.order c.loop-place.place c.args.first c.args.lanes (placed c.args.sequence.now.rows.of_bits.items c.loop-place.sums)
so_far g c = rw (at_place c.loop-place.place (length g.of.order) (omega (arith, c.args.sequence.now.along.ok.0, c.requires.0.is_sequence.along.count))) at c.loop-place.invariant.sums_so_far

-- the sums at its ends
ends : (g : Over) (c : After-index-arc g) → IsSmallAt c.loop-place.sums c.index-arc.result.now
ends g c =
    let h = c.requires.0 in
    rw (arc_is g c)
    (ends_small g.of.design g.of.order h.is_ordered.order h.is_ordered.kept c.args.sequence.now (length c.args.sums.now) h.is_sequence h.bits c.args.first c.args.lanes c.requires.1.0
    c.loop-place.sums c.loop-place.invariant.count c.loop-place.place (omega (arith, c.args.sequence.now.along.ok.0, h.is_sequence.along.count)) (so_far g c))

pub carry-requires-clause-from_bounded : goal.carry-requires-clause-from_bounded
carry-requires-clause-from_bounded g c = (ends g (goal.at.carry-requires-clause-from_bounded g c).After-index-arc).from

pub carry-requires-clause-to_bounded : goal.carry-requires-clause-to_bounded
carry-requires-clause-to_bounded g c = (ends g (goal.at.carry-requires-clause-to_bounded g c).After-index-arc).to

pub carry-requires-clause-alike : goal.carry-requires-clause-alike
carry-requires-clause-alike g c = (ends g (goal.at.carry-requires-clause-alike g c).After-index-arc).alike

pub loop-place-preserved : goal.loop-place-preserved
loop-place-preserved g c =
    let i : ℕ = c.loop-place.place in
    let along = c.args.sequence.now.along.items in
    let all = c.requires.0.is_sequence.along.count in
    let low : i < length g.of.order = omega (arith, c.args.sequence.now.along.ok.0) in
    let turn = (goal.at.loop-place-preserved g c).After-index-arc in
    let h = c.in_ok-carry.ensures in
    let carried : IsCarried c.index-arc.result.now c.loop-place.sums c.carry.new.sums = record { others = h.others; greatest = h.greatest; least = h.least; bounded = h.bounded } in
    let awake : IsAwake along (i + 1) c.carry.new.reached c.carry.new.awake = h.awake (i + 1)
    (IsAwake-next along i c.loop-place.reached c.loop-place.awake _ c.pass.ensures.count c.pass.ensures.others c.loop-place.invariant.awake) in
    let same : length c.carry.new.sums ≡ length c.args.sums.now = h.count ∙ c.loop-place.invariant.count in
    record {
      sums_so_far = passed_next g.of.design g.of.order c.requires.0.is_ordered.order c.requires.0.is_ordered.kept c.args.sequence.now (length c.args.sums.now) c.requires.0.is_sequence c.requires.0.bits
          c.args.first c.args.lanes c.requires.1.0 c.carry.new.sums same c.carry.new.reached h.marked c.carry.new.awake (i + 1) c.next-place-in-loop-place.result (omega arith)
          (omega arith) awake c.next-place-in-loop-place.ensures.none
          (carried_along g.of.design g.of.order c.requires.0.is_ordered.order c.requires.0.is_ordered.kept c.args.sequence.now (length c.args.sums.now) c.requires.0.is_sequence c.requires.0.bits
          c.args.first c.args.lanes c.requires.1.0 c.loop-place.sums c.loop-place.invariant.count c.carry.new.sums h.count i low (rw (arc_is g turn) at carried) (so_far g turn));
      marked = h.marked;
      awake = IsAwake-later along (i + 1) c.next-place-in-loop-place.result c.carry.new.reached c.carry.new.awake (omega arith) awake;
      count = same;
    }

pub returns-clause-extremes : goal.returns-clause-extremes
returns-clause-extremes g c =
    let all = c.requires.0.is_sequence.along.count in
    let past : length g.of.order ≤ c.loop-place.place = omega (arith, c.args.sequence.now.along.ok.0) in
    let rows = c.args.sequence.now.rows.of_bits.items in
    let in_rows = c.requires.0.is_sequence.rows.of_bits.count in
    let same = length-placed rows c.loop-place.sums in
    AreExtremes-from_sums g.of.design g.of.order c.requires.0.is_ordered.order c.args.first c.args.lanes (placed rows c.loop-place.sums) (omega arith) c.requires.1.1.0 c.requires.0.is_ordered.kept.each_arc
    (rw (at_end c.loop-place.place (length g.of.order) past) at c.loop-place.invariant.sums_so_far)

pub next-place-requires-in-loop-place : goal.next-place-requires-in-loop-place
next-place-requires-in-loop-place g c =
    let rest = IsAwake-next c.args.sequence.now.along.items c.loop-place.place c.loop-place.reached c.loop-place.awake _ c.pass.ensures.count c.pass.ensures.others c.loop-place.invariant.awake in
    record { few = (c.in_ok-carry.ensures.awake (c.loop-place.place + 1) rest).ready.few }

-- the arc is one of the order
low : (g : Over) (c : After-index-arc g) → c.loop-place.place < length g.of.order
low g c = omega (arith, c.args.sequence.now.along.ok.0, c.requires.0.is_sequence.along.count)

pub carry-requires-clause-from : goal.carry-requires-clause-from
carry-requires-clause-from g c =
    let turn = (goal.at.carry-requires-clause-from g c).After-index-arc in
    let h = turn.requires.0 in
    let row = row_in g.of.design g.of.order h.is_ordered.order h.is_ordered.kept turn.args.sequence.now (length turn.args.sums.now) h.is_sequence h.bits turn.loop-place.place (low g turn) in
    rw (arc_is g turn) (omega (arith, turn.loop-place.invariant.count))

pub carry-requires-clause-to : goal.carry-requires-clause-to
carry-requires-clause-to g c =
    let turn = (goal.at.carry-requires-clause-to g c).After-index-arc in
    let h = turn.requires.0 in
    let row = row_to_in g.of.design g.of.order h.is_ordered.order h.is_ordered.kept turn.args.sequence.now (length turn.args.sums.now) h.is_sequence h.bits turn.loop-place.place (low g turn) in
    rw (arc_is g turn) (omega (arith, turn.loop-place.invariant.count))

pub carry-requires-clause-apart : goal.carry-requires-clause-apart
carry-requires-clause-apart g c =
    let turn = (goal.at.carry-requires-clause-apart g c).After-index-arc in
    let h = turn.requires.0 in
    rw (arc_is g turn)
    (rows_differ g.of.design g.of.order h.is_ordered.order h.is_ordered.kept turn.args.sequence.now (length turn.args.sums.now) h.is_sequence h.bits turn.loop-place.place (low g turn))

pub carry-requires-clause-min : goal.carry-requires-clause-min
carry-requires-clause-min g c =
    let turn = (goal.at.carry-requires-clause-min g c).After-index-arc in
    let h = turn.requires.0 in
    rw (arc_is g turn)
    (min_in g.of.design g.of.order h.is_ordered.order h.is_ordered.kept turn.args.sequence.now (length turn.args.sums.now) h.is_sequence h.bits turn.loop-place.place (low g turn))

pub carry-requires-clause-max : goal.carry-requires-clause-max
carry-requires-clause-max g c =
    let turn = (goal.at.carry-requires-clause-max g c).After-index-arc in
    let h = turn.requires.0 in
    rw (arc_is g turn)
    (max_in g.of.design g.of.order h.is_ordered.order h.is_ordered.kept turn.args.sequence.now (length turn.args.sums.now) h.is_sequence h.bits turn.loop-place.place (low g turn))
