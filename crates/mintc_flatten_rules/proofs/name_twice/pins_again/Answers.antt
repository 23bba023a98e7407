use Rattle.std.proofs.Common.{◌≡◌, ◌+◌, ◌∷◌, sym, ap, ◌∙◌, drop, bytes_eq, List}
use Rattle.std.proofs.lemmas.List.{drop_more}
use Rattle.mintc_netlist.specs.declared.module.Connection.{Connection}
use Rattle.mintc_netlist.specs.Again.{comes_again}
use Rattle.mintc_netlist.specs.Connections.{named_pins}
use Rattle.mintc_flatten_rules.proofs.TwiceLaws.{pin_step}
use Rattle.mintc_flatten_rules.proofs.name_twice.pins_again.Goals as goal

pub loop-connection-preserved : goal.loop-connection-preserved
loop-connection-preserved c =
    let cs = c.args.connections.now in
    let n = c.loop-connection.connection-index in
    let x = c.connection-item.result in
    let here : drop n cs ≡ x ∷ drop (n + 1) cs = drop_more cs n x c.loop-connection-test.true ∙ ap (λ (y : Connection). y ∷ drop (n + 1) cs) (sym c.connection-item.is) in
    sym (pin_step x.pin c.loop-connection.names c.add_pin.new.names (named_pins (drop (n + 1) cs)) c.in_ok-add_pin.field-0 c.in_ok-add_pin.ensures c.if-not-branch.false)
    ∙ sym (ap (λ (l : List Connection). comes_again bytes_eq c.loop-connection.names (named_pins l)) here)
    ∙ c.loop-connection.invariant
