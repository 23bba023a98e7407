use Rattle.std.proofs.Common.{◌++◌, [], ℕ, List, ap, ◌∙◌}
use Rattle.std.specs.List.{flat_map, fold}
use Rattle.mintc_netlist.specs.declared.module.Item.{Item}
use Rattle.mintc_netlist.specs.Again.{firsts_after}
use Rattle.mintc_netlist.specs.Nets.{net_names, mentions}
use Rattle.mintc_text_names.specs.Names.{with_name}
use Rattle.mintc_netlist_nets.proofs.SharedNetLaws.{three_parts}
use Rattle.mintc_netlist_nets.proofs.net_names.net_set.Goals as goal

pub returns : goal.returns
returns c =
    let m = c.args.module.now in
    let is = c.items-items.result.now in
    let ps = c.items.result.now in
    c.in_ok-add_all_mentions.ensures
    ∙ ap (λ (n : List (List ℕ)). fold with_name n (flat_map mentions is))
    (c.in_ok-add_all_declared.ensures ∙ ap (λ (n : List (List ℕ)). fold with_name n (flat_map net_names is)) (c.in_ok-add_names.ensures ∙ ap (λ (n : List (List ℕ)). fold with_name n ps) c.new-names.ensures))
    ∙ three_parts ps (flat_map net_names is) (flat_map mentions is)
    ∙ ap (λ (names : List (List ℕ)). firsts_after [] (names ++ flat_map net_names is ++ flat_map mentions is)) c.items.ensures
    ∙ ap (λ (items : List Item). firsts_after [] (m.ports ++ flat_map net_names items ++ flat_map mentions items)) c.items-items.ensures
