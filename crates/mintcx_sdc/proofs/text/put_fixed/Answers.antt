use Rattle.std.specs.Prelude.{codes}
use Rattle.std.proofs.lemmas.Result.{on_ok_weaker}
use Rattle.mintcx_sdc.proofs.WrittenLaws.{two_lines}
use Rattle.mintcx_sdc.proofs.text.put_fixed.Goals as goal

pub returns : goal.returns
returns c =
    on_ok_weaker c.put-2.result
    (λ e. two_lines c.args.lines.now c.put.new.self c.put-2.new.self
    (codes "# All numbers are in ns, exactly; read this where the library's time unit is 1 ns.") (codes "set_units -time ns")
    c.in_ok-put.ensures.ok e)
    c.put-2.ensures.ok
