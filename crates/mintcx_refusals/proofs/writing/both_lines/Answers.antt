use Rattle.std.proofs.Common.{◌++◌, ◌∙◌, ap}
use Rattle.std.specs.Prelude.{codes}
use Rattle.mintcx_refusals.specs.Messages.{own_line}
use Rattle.mintcx_refusals.proofs.MessageLaws.{made_of_three}
use Rattle.mintcx_refusals.proofs.writing.both_lines.Goals as goal

pub returns : goal.returns
returns c =
    c.new.ensures ∙ c.into_bytes.ensures
    ∙ made_of_three (own_line c.args.corner.now) (codes "; ") (own_line c.args.own.now) c.new-lines.ensures
    (c.in_ok-put.ensures.ok ∙ ap (λ v. c.new-lines.result ++ v) (c.items.ensures ∙ c.in_ok-first.ensures))
    c.in_ok-put-2.ensures.ok
    (c.in_ok-put-3.ensures.ok ∙ ap (λ v. c.put-2.new.self ++ v) (c.items-2.ensures ∙ c.in_ok-second.ensures))
