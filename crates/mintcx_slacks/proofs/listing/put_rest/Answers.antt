use Rattle.std.proofs.Common.{◌≡◌, ◌++◌, ap, ◌∙◌, w64}
use Rattle.std.proofs.lemmas.Int.{to_z-of_z}
use Rattle.std.proofs.lemmas.Result.{on_ok_weaker}
use Rattle.mintcx_amounts.specs.Amounts.{amount_text}
use Rattle.mintcx_slacks.specs.Slacks.{whole_text}
use Rattle.mintcx_slacks.proofs.RestLaws.{rest_written}
use Rattle.mintcx_slacks.proofs.listing.put_rest.Goals as goal

pub returns : goal.returns
returns c =
    let read = to_z-of_z w64 c.args.greatest c.ranges.greatest in
    let written = rw (c.whole.ensures.value, read) at c.in_ok-put_amount.ensures.ok in
    on_ok_weaker c.put-3.result
    (λ e. rest_written c.args.unit c.args.greatest c.args.lines.now c.put.new.self c.put_number.new.lines c.put-2.new.self c.put_amount.new.lines c.put-3.new.self c.args.count
    c.if-count-eq0.false c.in_ok-put.ensures.ok c.in_ok-put_number.ensures c.in_ok-put-2.ensures.ok written e)
    c.put-3.ensures.ok
