use Rattle.std.proofs.Common.{◌≡◌, ◌<◌, ◌+◌, ◌∙◌, ℕ, length, arith}
use Rattle.std.proofs.lemmas.List.{get_or_default}
use Rattle.mintc_timing.specs.Design.{no_arc}
use Rattle.mintc_timing.specs.Paths.{arc_at}
use Rattle.mintc_paths.specs.Worklist.{IsAwake}
use Rattle.mintc_paths_count.proofs.Leading.{AreCarriedMarks, AreMarksAlong-begun}
use Rattle.mintc_paths_count.proofs.Noting.{marked_along, unmarked_next}
use Rattle.mintc_paths.proofs.SharedPassing.{at_place, row_in, row_to_in}
use Rattle.mintc_paths.proofs.SharedWaking.{IsAwake-later, IsAwake-next}
use Rattle.mintc_paths_count.proofs.marks.mark_all.Given.{Over}
use Rattle.mintc_paths_count.proofs.marks.mark_all.Goals as goal
use Rattle.mintc_paths_count.proofs.marks.mark_all.Goals.{After-index-arc}

pub loop-place-init : goal.loop-place-init
loop-place-init g c =
    let h = c.begin.ensures in
    record {
      along = unmarked_next g.of.design g.of.order c.requires.0.is_ordered.order c.requires.0.is_ordered.kept c.args.sequence.now (length c.args.marks.now) c.requires.0.is_sequence c.requires.0.bits
          c.args.first c.args.lanes c.requires.1.0 c.begin.new.marks c.begin.auto.marks c.begin.new.reached h.marked c.begin.new.awake 0 c.next-place.result (omega arith)
          (omega arith) h.awake c.next-place.ensures.none
          (AreMarksAlong-begun (length c.args.marks.now) g.of.design.arcs g.of.order c.args.sequence.now.rows.of_bits.items c.args.first c.args.lanes c.begin.new.marks h.begun);
      marked = h.marked;
      awake = IsAwake-later c.args.sequence.now.along.items 0 c.next-place.result c.begin.new.reached c.begin.new.awake (omega arith) h.awake;
      count = c.begin.auto.marks;
    }

-- the arc that the loop reads
arc_is : (g : Over) (c : After-index-arc g) → c.index-arc.result.now ≡ arc_at c.args.sequence.now.along.items c.loop-place.place
arc_is g c = c.index-arc.ensures ∙ get_or_default c.args.sequence.now.along.items c.loop-place.place c.index-arc.result.now no_arc (omega (arith, c.args.sequence.now.along.ok.0))

pub next-place-requires-in-loop-place : goal.next-place-requires-in-loop-place
next-place-requires-in-loop-place g c =
    let rest = IsAwake-next c.args.sequence.now.along.items c.loop-place.place c.loop-place.reached c.loop-place.awake _ c.pass.ensures.count c.pass.ensures.others c.loop-place.invariant.awake in
    record { few = (c.carry.ensures.awake (c.loop-place.place + 1) rest).ready.few }

pub carry-requires-clause-from : goal.carry-requires-clause-from
carry-requires-clause-from g c =
    let turn = (goal.at.carry-requires-clause-from g c).After-index-arc in
    let h = turn.requires.0 in
    let low : turn.loop-place.place < length g.of.order = omega (arith, turn.args.sequence.now.along.ok.0, h.is_sequence.along.count) in
    let row = row_in g.of.design g.of.order h.is_ordered.order h.is_ordered.kept turn.args.sequence.now (length turn.args.marks.now) h.is_sequence h.bits turn.loop-place.place low in
    rw (arc_is g turn) (omega (arith, turn.loop-place.invariant.count))

pub carry-requires-clause-to : goal.carry-requires-clause-to
carry-requires-clause-to g c =
    let turn = (goal.at.carry-requires-clause-to g c).After-index-arc in
    let h = turn.requires.0 in
    let low : turn.loop-place.place < length g.of.order = omega (arith, turn.args.sequence.now.along.ok.0, h.is_sequence.along.count) in
    let row = row_to_in g.of.design g.of.order h.is_ordered.order h.is_ordered.kept turn.args.sequence.now (length turn.args.marks.now) h.is_sequence h.bits turn.loop-place.place low in
    rw (arc_is g turn) (omega (arith, turn.loop-place.invariant.count))

pub loop-place-preserved : goal.loop-place-preserved
loop-place-preserved g c =
    let i : ℕ = c.loop-place.place in
    let n : ℕ = length c.args.marks.now in
    let along = c.args.sequence.now.along.items in
    let all = c.requires.0.is_sequence.along.count in
    let low : i < length g.of.order = omega (arith, c.args.sequence.now.along.ok.0) in
    let is = arc_is g (goal.at.loop-place-preserved g c).After-index-arc in
    let so_far = rw (at_place i (length g.of.order) low) at c.loop-place.invariant.along in
    let h = c.carry.ensures in
    let carried : AreCarriedMarks c.index-arc.result.now c.loop-place.marks c.carry.new.marks = record { others = h.others; joined = h.joined } in
    let awake : IsAwake along (i + 1) c.carry.new.reached c.carry.new.awake = h.awake (i + 1)
    (IsAwake-next along i c.loop-place.reached c.loop-place.awake _ c.pass.ensures.count c.pass.ensures.others c.loop-place.invariant.awake) in
    let same : length c.carry.new.marks ≡ n = c.carry.auto.marks ∙ c.loop-place.invariant.count in
    record {
      along = unmarked_next g.of.design g.of.order c.requires.0.is_ordered.order c.requires.0.is_ordered.kept c.args.sequence.now n c.requires.0.is_sequence c.requires.0.bits
          c.args.first c.args.lanes c.requires.1.0 c.carry.new.marks same c.carry.new.reached h.marked c.carry.new.awake (i + 1) c.next-place-in-loop-place.result (omega arith)
          (omega arith) awake c.next-place-in-loop-place.ensures.none
          (marked_along g.of.design g.of.order c.requires.0.is_ordered.order c.requires.0.is_ordered.kept c.args.sequence.now n c.requires.0.is_sequence c.requires.0.bits c.args.first c.args.lanes c.requires.1.0
          i low c.loop-place.marks c.carry.new.marks (rw is at carried) so_far);
      marked = h.marked;
      awake = IsAwake-later along (i + 1) c.next-place-in-loop-place.result c.carry.new.reached c.carry.new.awake (omega arith) awake;
      count = same;
    }
