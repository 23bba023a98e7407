use Rattle.std.proofs.Common.{◌+◌, ◌≤◌, arith, rules, sym, ◌∙◌, ap}
use Rattle.std.proofs.lemmas.List.{take_all}
use Rattle.mintc_netlist_nets.proofs.ExpressionLaws.{width_in, width_turned}
use Rattle.mintc_netlist_nets.proofs.nets.Nets.width.Goals as goal

pub overflow_add-width : goal.overflow_add-width
overflow_add-width c =
    let sum : c.loop-piece.width + c.piece_width-width.result ≤ 281474976710656 = omega (arith, c.loop-piece.invariant.1, c.piece_width-width.ensures.most, c.loop-piece-test.true, c.requires.few) in
    search rules

pub returns : goal.returns
returns c =
    let m = c.args.module_nets.now in
    let ps = c.args.pieces.now in
    c.loop-piece.invariant.0 ∙ ap (width_in m) (take_all c.loop-piece.piece-index ps c.loop-piece-test.false) ∙ sym (width_turned m ps)
