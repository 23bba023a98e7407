use Rattle.std.proofs.Common.{◌≡◌, ◌++◌, ℤ, ap, ◌∙◌, w64, to_z, of_z, arith}
use Rattle.std.specs.Prelude.{codes}
use Rattle.std.proofs.lemmas.Int.{to_z-of_z}
use Rattle.std.proofs.lemmas.Result.{on_ok_weaker}
use Rattle.mintc_text.specs.Lines.{ended}
use Rattle.mintcx_sdc.specs.declared.delays.Way.TheVariants.{Out}
use Rattle.mintcx_sdc.specs.Delays.{delay_line, hold_lines}
use Rattle.mintcx_sdc.proofs.WrittenLaws.{last_line}
use Rattle.mintcx_sdc.proofs.delays.put_output.Goals as goal

pub returns : goal.returns
returns c =
    let phases = c.args.phases.now in
    let l = c.args.output.now in
    let setup : to_z w64 (of_z w64 l.setup) ≡ l.setup = grind (arith, to_z-of_z) in
    on_ok_weaker c.put_delay.result
    (λ e. last_line c.args.lines.now c.put_hold.new.lines c.put_delay.new.lines (hold_lines phases l) (delay_line phases Out l (codes " -max ") l.setup)
    c.in_ok-put_hold.ensures
    (e ∙ ap (λ (x : ℤ). c.put_hold.new.lines ++ ended (delay_line phases Out l (codes " -max ") x)) setup))
    c.put_delay.ensures
