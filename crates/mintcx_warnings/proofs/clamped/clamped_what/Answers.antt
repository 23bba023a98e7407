use Rattle.std.proofs.Common.{◌++◌, ◌∙◌, ap}
use Rattle.std.specs.Prelude.{decimal}
use Rattle.mintcx_warnings.specs.Clamped.{delays_of, taken}
use Rattle.mintcx_warnings.proofs.WrittenLaws.{made_of_four}
use Rattle.mintcx_warnings.proofs.clamped.clamped_what.Goals as goal

pub returns : goal.returns
returns c =
    c.new.ensures ∙ c.into_bytes.ensures
    ∙ made_of_four (decimal c.args.delays) (delays_of c.args.delays) (decimal c.args.numbers) (taken c.args.numbers)
    c.new-lines.ensures c.in_ok-put_number.ensures
    (c.in_ok-put.ensures.ok ∙ ap (λ v. c.put_number.new.lines ++ v) c.delays_of.ensures)
    c.in_ok-put_number-2.ensures
    (c.in_ok-put-2.ensures.ok ∙ ap (λ v. c.put_number-2.new.lines ++ v) c.taken.ensures)
