use Rattle.std.proofs.Common.{◌∙◌}
use Rattle.std.specs.Prelude.{codes}
use Rattle.mintcx_warnings.specs.Warnings.{quoted}
use Rattle.mintcx_warnings.proofs.WrittenLaws.{made_of_six}
use Rattle.mintcx_warnings.proofs.data.data_why.Goals as goal

pub returns : goal.returns
returns c =
    c.new.ensures ∙ c.into_bytes.ensures
    ∙ made_of_six (codes "its output ") (quoted c.args.net.now) (codes " enters pin ") c.args.pin.now (codes " of ") (quoted c.args.instance.now)
    c.new-lines.ensures c.in_ok-put.ensures.ok c.in_ok-put_quoted.ensures c.in_ok-put-2.ensures.ok c.in_ok-put-3.ensures.ok c.in_ok-put-4.ensures.ok c.in_ok-put_quoted-2.ensures
