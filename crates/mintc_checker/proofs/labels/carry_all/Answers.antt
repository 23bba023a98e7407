use Rattle.std.proofs.Common.{◌≡◌, ◌<◌, ℕ, length, get_or, arith, ap, ◌∙◌, subst, ◌*ℤ◌, false}
use Rattle.std.proofs.lemmas.Grind.{common_steps}
use Rattle.std.proofs.lemmas.List.{get_or_default}
use Rattle.mintc_timing.specs.Design.{no_arc}
use Rattle.mintc_timing.specs.Limits.{IsArc}
use Rattle.mintc_timing.specs.Paths.{arc_at}
use Rattle.mintc_timing.proofs.SharedOrdered.{inside}
use Rattle.mintc_checker.specs.declared.course.Step.{Step}
use Rattle.mintc_checker.specs.Course.{bare, moved, no_step, step_at, IsStep}
use Rattle.mintc_checker.specs.Labels.{IsAlong}
use Rattle.mintc_checker.specs.Rows.{AreRowsAlong}
use Rattle.mintc_checker.proofs.Holding.{AreRows-carried, right_from, right_to}
use Rattle.mintc_checker.proofs.Placing.{length-moved, moved_at}
use Rattle.mintc_checker.proofs.Sizes.{AreLanes-from_row}
use Rattle.mintc_checker.proofs.labels.carry_all.Goals as goal
use Rattle.mintc_checker.proofs.labels.carry_all.Goals.{After-index-step}

in_order : (c : After-index-step) → c.loop-place.place < length c.args.order.now
in_order c = grind (arith, common_steps)

-- the step that the loop reads
step_is : (c : After-index-step) → IsStep c.args.course.now.places.of_bits.items (step_at (moved c.args.departing.now.flat.now.arcs c.args.order.now) c.loop-place.place) c.index-step.result.now
step_is c =
    let steps = c.requires.course.steps in
    let arcs = c.args.departing.now.flat.now.arcs in
    rw (c.index-step.ensures ∙ get_or_default c.args.course.now.steps.items c.loop-place.place c.index-step.result.now no_step (omega (arith, steps.count, in_order c, length-moved arcs c.args.order.now)))
    (steps.each c.loop-place.place (in_order c))

arc_is : (c : After-index-step) → step_at (moved c.args.departing.now.flat.now.arcs c.args.order.now) c.loop-place.place ≡ bare (arc_at c.args.departing.now.flat.now.arcs (get_or c.args.order.now c.loop-place.place 0))
arc_is c = moved_at c.args.departing.now.flat.now.arcs c.args.order.now c.loop-place.place (in_order c)

arc_in : (c : After-index-step) → IsArc (length c.args.departing.now.flat.now.elements) (length c.args.departing.now.flat.now.inner) (arc_at c.args.departing.now.flat.now.arcs (get_or c.args.order.now c.loop-place.place 0))
arc_in c = c.elements-elements.ensures.kept.each_arc (get_or c.args.order.now c.loop-place.place 0) no_arc (inside c.args.departing.now.flat.now.arcs c.args.order.now c.requires.order c.loop-place.place (in_order c))

pub carry_step-requires : goal.carry_step-requires
carry_step-requires c =
    let at = (goal.at.carry_step-requires c).After-index-step in
    let is = step_is at in
    let departing = c.args.departing.now in
    let design = departing.flat.now in
    let places = c.args.course.now.places in
    let k : ℕ = c.loop-place.place in
    let rows = c.loop-place.rows in
    let i = c.loop-place.invariant in
    let kept = c.elements-elements.ensures.kept in
    let arc : Step = step_at (moved design.arcs c.args.order.now) k in
    let lanes = AreLanes-from_row design kept departing.short departing.den departing.departures.now (IsAlong c.args.order.now k) in
    let from = right_from design kept departing.den departing.departures.now c.args.order.now c.requires.order c.args.course.now c.requires.course k (in_order at) rows i.count i.rows in
    let to = right_to design kept departing.den departing.departures.now c.args.order.now c.requires.order c.args.course.now c.requires.course k (in_order at) rows i.count i.rows in
    record {
      from = omega (arith, is.from, c.requires.course.places.below arc.from, i.count);
      to = omega (arith, is.to, c.requires.course.places.below arc.to, i.count);
      delay = rw (is.max, arc_is at) (arc_in at).max;
      from_lanes = rw is.from (lanes arc.from _ departing.is_den departing.in_range from);
      to_lanes = rw is.to (lanes arc.to _ departing.is_den departing.in_range to);
    }

pub loop-place-preserved : goal.loop-place-preserved
loop-place-preserved c =
    let at = (goal.at.loop-place-preserved c).After-index-step in
    let is = step_is at in
    let departing = c.args.departing.now in
    let design = departing.flat.now in
    let k : ℕ = c.loop-place.place in
    let i = c.loop-place.invariant in
    let marks : c.index.result.now ≡ get_or c.args.course.now.lasts.items k false = grind (arith, common_steps) in
    let weight = ap (λ (s : Step). s.max) (arc_is at) in
    record {
      count = c.finish.auto.rows ∙ c.carry_step.auto.rows ∙ i.count;
      rows = AreRows-carried design c.elements-elements.ensures.kept departing.den departing.departures.now c.args.order.now c.requires.order c.args.course.now c.requires.course k (in_order at)
          c.loop-place.rows i.count i.rows c.carry_step.new.rows c.finish.new.rows _ (c.finish.auto.rows ∙ c.carry_step.auto.rows) (ap (λ v. v *ℤ departing.den) (is.max ∙ weight))
          (rw is.to at c.carry_step.ensures.others) (rw (is.to, is.from) at c.carry_step.ensures.joined)
          (rw (is.from, marks) at c.finish.ensures.others) (rw (is.from, marks) at c.finish.ensures.none);
    }

pub returns : goal.returns
returns c =
    let all : c.loop-place.place ≡ length c.args.order.now = grind (arith, common_steps) in
    subst (λ k. AreRowsAlong c.args.departing.now.flat.now c.args.departing.now.den c.args.departing.now.departures.now c.args.order.now c.args.course.now k c.loop-place.rows) all c.loop-place.invariant.rows
