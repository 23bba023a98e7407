use Rattle.std.proofs.Common.{◌≡◌, ◌++◌, ◌∙◌}
use Rattle.mintc_verilog_expressions.specs.Expressions.{repeated}
use Rattle.mintc_verilog_expressions.proofs.Nest.{repeated-more}
use Rattle.mintc_verilog_expressions.proofs.expressions.repeat.Goals as goal

pub loop-turn-preserved : goal.loop-turn-preserved
loop-turn-preserved c =
    let ps = c.args.pieces.items in
    (let e : c.append_copy.new.out.items ≡ repeated c.loop-turn._turn ps ++ ps = cc (c.in_ok-append_copy.ensures, c.deref.ensures.value) in e) ∙ repeated-more c.loop-turn._turn ps
