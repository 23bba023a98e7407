use Rattle.std.specs.Prelude.{codes}
use Rattle.std.proofs.lemmas.Result.{on_ok_weaker}
use Rattle.mintcx_sdc.specs.Times.{braced}
use Rattle.mintcx_sdc.proofs.WrittenLaws.{in_three}
use Rattle.mintcx_sdc.proofs.times.put_ports.Goals as goal

pub returns : goal.returns
returns c =
    on_ok_weaker c.put-2.result
    (λ e. in_three c.args.lines.now c.put.new.self c.put_braced.new.lines c.put-2.new.self (codes " [get_ports ") (braced c.args.port.now) (codes "]")
    c.in_ok-put.ensures.ok c.in_ok-put_braced.ensures e)
    c.put-2.ensures.ok
