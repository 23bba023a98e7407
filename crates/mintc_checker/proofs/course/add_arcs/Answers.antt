use Rattle.std.proofs.Common.{◌<◌, ◌≤◌, length, arith, ap, ◌∙◌}
use Rattle.std.proofs.lemmas.Grind.{common_steps}
use Rattle.std.proofs.lemmas.List.{map_more, take_all}
use Rattle.mintc_timing.specs.Paths.{arc_at}
use Rattle.mintc_checker.specs.Course.{bare, moved}
use Rattle.mintc_checker.proofs.course.add_arcs.Goals as goal

pub bare_step-step-requires : goal.bare_step-step-requires
bare_step-step-requires c = c.arc_at_place.ensures.kept.max

pub loop-place-preserved : goal.loop-place-preserved
loop-place-preserved c =
    let arcs = c.args.flat.now.arcs in
    let order = c.args.order.now in
    let low : c.loop-place.place < length order = grind (arith, common_steps) in
    rw (map_more (λ number. bare (arc_at arcs number)) order c.loop-place.place 0 low, ← c.loop-place.invariant, ← c.arc_at_place.ensures.value, ← c.bare_step-step.ensures) c.in_ok-push.ensures.items

pub returns : goal.returns
returns c =
    let all : length c.args.order.now ≤ c.loop-place.place = grind (arith, common_steps) in
    c.loop-place.invariant ∙ ap (moved c.args.flat.now.arcs) (take_all c.loop-place.place c.args.order.now all)
