use Rattle.std.proofs.Common.{◌++◌, ◌∙◌, ap}
use Rattle.std.specs.Prelude.{codes, decimal}
use Rattle.mintcx_warnings.specs.Latches.{same_verb}
use Rattle.mintcx_warnings.proofs.WrittenLaws.{made_of_six}
use Rattle.mintcx_warnings.proofs.latches.same_what.Goals as goal

pub returns : goal.returns
returns c =
    c.new.ensures ∙ c.into_bytes.ensures
    ∙ made_of_six (decimal c.args.count) (codes " of ") (decimal c.args.all) (codes " pairs ") (same_verb c.args.count) (codes " from a latch to a latch on the same phase")
    c.new-lines.ensures c.in_ok-put_number.ensures c.in_ok-put.ensures.ok c.in_ok-put_number-2.ensures c.in_ok-put-2.ensures.ok
    (c.in_ok-put-3.ensures.ok ∙ ap (λ v. c.put-2.new.self ++ v) c.same_verb.ensures)
    c.in_ok-put-4.ensures.ok
