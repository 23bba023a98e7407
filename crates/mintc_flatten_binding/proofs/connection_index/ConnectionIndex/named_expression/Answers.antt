use Rattle.std.proofs.Common.{◌≡◌, ap, sym, ◌∙◌, Option, None, Some, subst}
use Rattle.std.specs.Option.{option_and_then, MatchOption}
use Rattle.mintc_netlist.specs.declared.module.Connection.{Connection}
use Rattle.mintc_netlist.specs.Connections.{is_to}
use Rattle.mintc_flatten_binding.proofs.ConnectedLaws.{found_by, none_by}
use Rattle.mintc_flatten_binding.proofs.connection_index.ConnectionIndex.named_expression.Goals as goal

pub returns-in-Some : goal.returns-in-Some
returns-in-Some c =
    let cs = c.args.connections.now in
    let same = found_by (is_to c.args.name.now) cs c.in-Some.place (sym (c.find.ensures cs (c.requires c.if-connections-le-FEW.false)) ∙ c.in-Some.is) in
    subst (λ (found : Option Connection). MatchOption c.expression_of.result (option_and_then (λ (x : Connection). x.expr) found ≡ None) (λ expr. option_and_then (λ (x : Connection). x.expr) found ≡ Some expr.now))
    (sym same) c.expression_of.ensures

pub returns-in-None : goal.returns-in-None
returns-in-None c = ap (option_and_then (λ (x : Connection). x.expr)) (none_by (is_to c.args.name.now) c.args.connections.now (sym (c.find.ensures c.args.connections.now (c.requires c.if-connections-le-FEW.false)) ∙ c.in-None.is))
