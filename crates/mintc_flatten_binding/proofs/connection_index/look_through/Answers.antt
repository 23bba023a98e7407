use Rattle.std.proofs.Common.{◌≡◌, Option, None, Some, sym, subst, ◌∙◌}
use Rattle.std.specs.Option.{option_and_then, MatchOption}
use Rattle.mintc_netlist.specs.declared.module.Connection.{Connection}
use Rattle.mintc_netlist.specs.Connections.{is_to}
use Rattle.mintc_flatten_binding.proofs.ConnectedLaws.{found_here}
use Rattle.mintc_flatten_binding.proofs.connection_index.look_through.Goals as goal

pub returns-then-is_to : goal.returns-then-is_to
returns-then-is_to c =
    let same = found_here (is_to c.args.name.now) c.args.connections.now c.loop-number.number c.index-connections-number.result c.loop-number-test.true c.index-connections-number.is
    (sym c.is_to.ensures ∙ c.if-is_to.true) c.loop-number.invariant in
    subst (λ (found : Option Connection). MatchOption c.expression_of.result (option_and_then (λ (x : Connection). x.expr) found ≡ None) (λ expr. option_and_then (λ (x : Connection). x.expr) found ≡ Some expr.now))
    (sym same) c.expression_of.ensures
