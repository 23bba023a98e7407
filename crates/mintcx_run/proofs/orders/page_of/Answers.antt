use Rattle.std.proofs.Common.{inl}
use Rattle.mintcx_run.proofs.ReplyLaws.{page_of_warning}
use Rattle.mintcx_run.proofs.orders.page_of.Goals as goal

pub returns-in-Some : goal.returns-in-Some
returns-in-Some c = inl c.in-Some.ensures

pub returns-in-None : goal.returns-in-None
returns-in-None c = page_of_warning c.warning_explanation.result (λ page. page.now) c.args.topic.now c.in-None.ensures c.warning_explanation.ensures
