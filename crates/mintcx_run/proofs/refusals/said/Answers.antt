use Rattle.mintcx_run.proofs.RefusalLaws.{said_message, said_object}
use Rattle.mintcx_run.proofs.refusals.said.Goals as goal

pub returns-then-is_object : goal.returns-then-is_object
returns-then-is_object c = said_object c.refusal_object.result c.args.order.now c.args.file.now c.args.refusal.now c.is_object.result c.is_object.ensures c.if-is_object.true c.refusal_object.ensures

pub returns-else-is_object : goal.returns-else-is_object
returns-else-is_object c = said_message c.message_of.result c.args.order.now c.args.file.now c.args.refusal.now c.is_object.result c.is_object.ensures c.if-is_object.false c.message_of.ensures
