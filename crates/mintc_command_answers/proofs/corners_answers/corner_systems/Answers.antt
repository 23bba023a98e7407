use Rattle.std.proofs.Common.{[], arith}
use Rattle.std.proofs.lemmas.List.{get_or_read}
use Rattle.mintc_command_answers.proofs.CornerLaws.{as_many_corners, first_refused, given_more}
use Rattle.mintc_command_answers.proofs.corners_answers.corner_systems.Goals as goal

pub overflow_cast-result : goal.overflow_cast-result
overflow_cast-result c =
    let below = c.loop-corner-test.true in
    let few = c.requires.few in
    let many = as_many_corners c.args.limits.now c.args.texts.now c.args.delays.now c.loop-corner.corner-index c.loop-corner.systems.items (omega (arith, below)) c.loop-corner.invariant in
    omega (arith, few, below, many, c.len.ensures)

pub overflow_add-result : goal.overflow_add-result
overflow_add-result c =
    let below = c.loop-corner-test.true in
    let few = c.requires.few in
    let many = as_many_corners c.args.limits.now c.args.texts.now c.args.delays.now c.loop-corner.corner-index c.loop-corner.systems.items (omega (arith, below)) c.loop-corner.invariant in
    omega (arith, few, below, many, c.len.ensures)

pub returns-in-Err-Refused-clause-stop : goal.returns-in-Err-Refused-clause-stop
returns-in-Err-Refused-clause-stop c =
    let below = c.loop-corner-test.true in
    let many = as_many_corners c.args.limits.now c.args.texts.now c.args.delays.now c.loop-corner.corner-index c.loop-corner.systems.items (omega (arith, below)) c.loop-corner.invariant in
    let own = get_or_read c.args.delays.now c.loop-corner.corner-index c.corner-item.result below c.corner-item.is [] in
    let told = c.in-Err-Refused.own-is in
    let fields = c.in-Err-Refused.field-0-is in
    rw c.in-Err-Refused.field-0-is
    (first_refused c.args.limits.now c.args.texts.now c.args.delays.now c.loop-corner.corner-index 1 _ c.loop-corner.systems.items c.corner-item.result _ below (omega (arith, many, c.len.ensures)) own
    c.loop-corner.invariant (rw c.in-Err-Refused.field-0-is at c.in-Err-Refused.ensures.stop))

pub loop-corner-preserved : goal.loop-corner-preserved
loop-corner-preserved c =
    let below = c.loop-corner-test.true in
    let own = get_or_read c.args.delays.now c.loop-corner.corner-index c.corner-item.result below c.corner-item.is [] in
    given_more c.args.limits.now c.args.texts.now c.args.delays.now c.loop-corner.corner-index c.loop-corner.systems.items c.push.new.self.items c.corner-item.result c.in-Ok.system below own
    c.in-Ok-push.ensures.items c.loop-corner.invariant c.in-Ok.ensures.value
