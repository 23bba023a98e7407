use Rattle.std.proofs.Common.{◌++◌, ◌∙◌, ap}
use Rattle.std.specs.Prelude.{codes, decimal}
use Rattle.mintcx_warnings.specs.Data.{data_rest}
use Rattle.mintcx_warnings.specs.Warnings.{quoted}
use Rattle.mintcx_warnings.proofs.WrittenLaws.{made_of_five}
use Rattle.mintcx_warnings.proofs.data.data_what.Goals as goal

pub returns : goal.returns
returns c =
    c.new.ensures ∙ c.into_bytes.ensures
    ∙ made_of_five (codes "clock cell ") (quoted c.args.cell.now) (codes " leads to data: ") (decimal c.args.count) (data_rest c.args.count)
    c.new-lines.ensures c.in_ok-put.ensures.ok c.in_ok-put_quoted.ensures c.in_ok-put-2.ensures.ok c.in_ok-put_number.ensures
    (c.in_ok-put-3.ensures.ok ∙ ap (λ v. c.put_number.new.lines ++ v) c.data_rest.ensures)
