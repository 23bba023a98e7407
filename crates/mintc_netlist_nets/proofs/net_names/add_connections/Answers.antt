use Rattle.std.proofs.Common.{◌≡◌, ◌+◌, ◌++◌, ◌∷◌, [], List, ℕ, take, sym, ap, ◌∙◌}
use Rattle.std.specs.List.{fold}
use Rattle.std.proofs.lemmas.List.{take_more}
use Rattle.mintc_netlist.specs.declared.module.Connection.{Connection}
use Rattle.mintc_text_names.specs.Names.{with_name}
use Rattle.mintc_netlist_nets.proofs.SharedNetLaws.{connected_names, connection_names, connected-push, fold-append}
use Rattle.mintc_netlist_nets.proofs.net_names.add_connections.Goals as goal

pub loop-connection-preserved : goal.loop-connection-preserved
loop-connection-preserved c =
    let cs = c.args.connections.now in
    let i = c.loop-connection.connection-index in
    let x = c.connection-item.result in
    let front : take (i + 1) cs ≡ take i cs ++ x ∷ [] = take_more cs i x c.loop-connection-test.true ∙ ap (λ (y : Connection). take i cs ++ y ∷ []) (sym c.connection-item.is) in
    c.in_ok-add_connection.ensures
    ∙ ap (λ (names : List (List ℕ)). fold with_name names (connection_names x.expr)) c.loop-connection.invariant
    ∙ sym (fold-append c.args.names.now (connected_names (take i cs)) (connection_names x.expr))
    ∙ ap (λ (names : List (List ℕ)). fold with_name c.args.names.now names) (sym (connected-push (take i cs) x) ∙ ap connected_names (sym front))
