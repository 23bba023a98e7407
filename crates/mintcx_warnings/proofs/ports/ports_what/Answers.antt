use Rattle.std.proofs.Common.{◌+◌, ◌++◌, ◌∙◌, ap}
use Rattle.std.specs.Prelude.{codes}
use Rattle.mintcx_warnings.specs.Ports.{kinds_text, missing_text, so_many}
use Rattle.mintcx_warnings.proofs.WrittenLaws.{made_of_three}
use Rattle.mintcx_warnings.proofs.ports.ports_what.Goals as goal

pub returns : goal.returns
returns c =
    let count = c.args.inputs + c.args.outputs in
    c.new.ensures ∙ c.into_bytes.ensures
    ∙ made_of_three (so_many count (codes " port")) (missing_text count) (kinds_text c.args.inputs c.args.outputs)
    c.new-lines.ensures c.in_ok-put_so_many.ensures
    (c.in_ok-put.ensures.ok ∙ ap (λ v. c.put_so_many.new.lines ++ v) c.missing_text.ensures)
    c.in_ok-put_kinds.ensures
