use Rattle.std.proofs.Common.{◌≡◌, ◌+◌, ◌||◌, Bool, take, drop, bytes_eq, sym, ap, ◌∙◌}
use Rattle.mintc_netlist.specs.Again.{comes_again}
use Rattle.mintc_netlist.specs.Connections.{named_pins}
use Rattle.mintc_flatten_rules.proofs.TwiceLaws.{pin_turn}
use Rattle.mintc_flatten_rules.proofs.name_twice.few_pins_again.Goals as goal

pub loop-number-preserved : goal.loop-number-preserved
loop-number-preserved c =
    let cs = c.args.connections.now in
    let n = c.loop-number.number in
    ap (λ (b : Bool). b || comes_again bytes_eq (named_pins (take (n + 1) cs)) (named_pins (drop (n + 1) cs))) (sym c.if-is_again.false)
    ∙ pin_turn cs n c.index-connections-number.result c.is_again.result c.loop-number-test.true c.index-connections-number.is c.is_again.ensures c.loop-number.invariant

pub returns-then-is_again : goal.returns-then-is_again
returns-then-is_again c =
    let cs = c.args.connections.now in
    let n = c.loop-number.number in
    ap (λ (b : Bool). b || comes_again bytes_eq (named_pins (take (n + 1) cs)) (named_pins (drop (n + 1) cs))) (sym c.if-is_again.true)
    ∙ pin_turn cs n c.index-connections-number.result c.is_again.result c.loop-number-test.true c.index-connections-number.is c.is_again.ensures c.loop-number.invariant
