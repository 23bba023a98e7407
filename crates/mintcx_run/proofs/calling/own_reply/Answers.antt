use Rattle.mintcx_run.proofs.ReplyLaws.{table_told, table_untold}
use Rattle.mintcx_run.proofs.calling.own_reply.Goals as goal

pub returns-in-Ok-Said-clause-reply : goal.returns-in-Ok-Said-clause-reply
returns-in-Ok-Said-clause-reply g c =
    table_told _ c.args.order c.of_table.result c.args.flat c.in-Ok-Said.table c.args.files.items c.in_place-texts.result.items c.args.warnings c.texts_reply.result
    (rw c.in-Ok-Said.field-0-is at c.in-Ok-Said.ensures) c.of_table.ensures.value c.in_place-texts.ensures.value c.texts_reply.ensures.reply

pub returns-in-Ok-Unsaid-clause-reply : goal.returns-in-Ok-Unsaid-clause-reply
returns-in-Ok-Unsaid-clause-reply g c =
    table_untold _ c.args.order c.args.flat c.in-Ok-Unsaid.obstacle c.args.files.items c.args.warnings c.unsaid_reply.result (rw c.in-Ok-Unsaid.field-0-is at c.in-Ok-Unsaid.ensures) c.unsaid_reply.ensures.message
