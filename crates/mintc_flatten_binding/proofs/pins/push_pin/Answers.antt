use Rattle.std.proofs.Common.{◌≡◌, ◌++◌, ◌∷◌, [], ◌<◌, Some, ℕ, List, Option, map, length, get_or, sym, ap, subst, ◌∙◌}
use Rattle.std.specs.Result.{OnOk}
use Rattle.std.proofs.lemmas.List.{get_or_read}
use Rattle.mintc_netlist.specs.declared.module.Module.{Module}
use Rattle.mintc_netlist.specs.Connections.{Pin}
use Rattle.mintc_flatten_hierarchy.specs.Sources.{module_at, no_module}
use Rattle.mintc_flatten_binding.specs.NetsOfModules.{source_in}
use Rattle.mintc_flatten_binding.specs.Orders.{IsThere}
use Rattle.mintc_flatten_binding.proofs.PinLaws.{inside-module, pin-cell, port-places}
use Rattle.mintc_flatten_binding.proofs.pins.push_pin.Goals as goal

pub returns-in_ok-push-in-OfCell : goal.returns-in_ok-push-in-OfCell
returns-in_ok-push-in-OfCell c =
    let s = source_in c.args.source.now in
    c.in_ok-push-in-OfCell.ensures.items
    ∙ ap (λ (place : ℕ). c.args.places.now.items ++ Some place ∷ []) c.from.ensures
    ∙ sym (ap (λ (p : Pin). c.args.places.now.items ++ map Some p.places) (pin-cell s c.args.binding c.in-OfCell.field-0 c.args.number c.in-OfCell.is c.requires.pin))

pub returns-in-OfModule : goal.returns-in-OfModule
returns-in-OfModule c =
    let s = source_in c.args.source.now in
    let j = c.in-OfModule.module_nets in
    let k = c.args.number in
    let there : j < length s.modules = subst (IsThere s) c.in-OfModule.is c.requires.there in
    let part = get_or s.modules j c.index-source-module_nets.result in
    let module_nets : part ≡ module_at s j = sym c.index-source-module_nets.is ∙ get_or_read s.modules j c.index-source-module_nets.result there c.index-source-module_nets.is no_module in
    let ports : c.items.result.now ≡ (module_at s j).ports = c.items.ensures ∙ ap (λ (m : Module). m.ports) module_nets in
    let inside : k < length c.items.result.now = subst (λ (ns : List (List ℕ)). k < length ns) (sym ports) (inside-module s c.args.binding j k c.in-OfModule.is c.requires.pin) in
    let name : c.bytes-name.result.now ≡ get_or (module_at s j).ports k [] =
    c.bytes-name.ensures ∙ get_or_read c.items.result.now k c.index-items-number.result inside c.index-items-number.is [] ∙ ap (λ (ns : List (List ℕ)). get_or ns k []) ports in
    subst (λ (xs : List (Option ℕ)). OnOk c.push_net.result (c.push_net.new.places.items ≡ c.args.places.now.items ++ xs))
    (port-places s c.args.binding j k part c.bytes-name.result.now c.in-OfModule.is c.requires.pin module_nets name) c.push_net.ensures
