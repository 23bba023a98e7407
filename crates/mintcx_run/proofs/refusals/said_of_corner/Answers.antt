use Rattle.mintcx_run.proofs.RefusalLaws.{corner_message_said, corner_object_said}
use Rattle.mintcx_run.proofs.refusals.said_of_corner.Goals as goal

pub returns-then-is_object : goal.returns-then-is_object
returns-then-is_object c = corner_object_said c.corner_object.result c.args.order.now c.args.file.now c.args.corner c.args.own.now c.is_object.result c.is_object.ensures c.if-is_object.true c.corner_object.ensures

pub returns-else-is_object : goal.returns-else-is_object
returns-else-is_object c = corner_message_said c.message_of_corner.result c.args.order.now c.args.file.now c.args.corner c.args.own.now c.is_object.result c.is_object.ensures c.if-is_object.false c.message_of_corner.ensures
