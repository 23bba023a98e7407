use Rattle.mintcx_run.proofs.ReplyLaws.{page_found}
use Rattle.mintcx_run.proofs.orders.refusal_page.Goals as goal

pub returns : goal.returns
returns c =
    let named = c.in_ok-topic_number.ensures in
    page_found c.explanation_of.result (λ page. page.now) c.args.topic.now c.in_ok-topic_number.field-0 named.0 named.1 c.explanation_of.ensures
