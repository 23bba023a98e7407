use Rattle.std.proofs.Common.{◌≡◌, ◌++◌, ℤ, ap, ◌∙◌, w64, to_z, of_z, arith}
use Rattle.std.specs.Prelude.{codes}
use Rattle.std.proofs.lemmas.Int.{to_z-of_z}
use Rattle.std.proofs.lemmas.Result.{on_ok_weaker}
use Rattle.mintc_text.specs.Lines.{ended}
use Rattle.mintcx_sdc.specs.declared.delays.Way.TheVariants.{In}
use Rattle.mintcx_sdc.specs.Delays.{delay_line}
use Rattle.mintcx_sdc.proofs.WrittenLaws.{two_lines}
use Rattle.mintcx_sdc.proofs.delays.put_input.Goals as goal

pub returns : goal.returns
returns c =
    let phases = c.args.phases.now in
    let l = c.args.input.now in
    let least : to_z w64 (of_z w64 l.min) ≡ l.min = grind (arith, to_z-of_z) in
    let most : to_z w64 (of_z w64 l.max) ≡ l.max = grind (arith, to_z-of_z) in
    on_ok_weaker c.put_delay-2.result
    (λ e. two_lines c.args.lines.now c.put_delay.new.lines c.put_delay-2.new.lines (delay_line phases In l (codes " -min ") l.min) (delay_line phases In l (codes " -max ") l.max)
    (c.in_ok-put_delay.ensures ∙ ap (λ (x : ℤ). c.args.lines.now ++ ended (delay_line phases In l (codes " -min ") x)) least)
    (e ∙ ap (λ (x : ℤ). c.put_delay.new.lines ++ ended (delay_line phases In l (codes " -max ") x)) most))
    c.put_delay-2.ensures
