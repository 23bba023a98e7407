-- What lacks a port or a pin, found by sets of names.
use Rattle.std.specs.Prelude.{ℕ, Bool, not, ◌&&◌, ◌||◌, nat_lt, Some, List, [], length}
use Rattle.std.specs.List.{fold, flat_map, list_any}
use Rattle.mintc_netlist.specs.declared.module.Item.{Item}
use Rattle.mintc_netlist.specs.declared.module.Module.{Module}
use Rattle.mintc_text_names.specs.Names.{is_among, with_name}
use Rattle.mintc_netlist.specs.Nets.{port_names}
use Rattle.mintc_netlist.specs.Connections.{pin_names}
use Rattle.mintc_netlist.specs.Statements.{statement_of}
use Rattle.mintc_flatten_hierarchy.specs.declared.bindings.Binding.{Binding}
use Rattle.mintc_flatten_hierarchy.specs.Sources.{Source, binding_pins}
use Rattle.mintc_flatten_hierarchy.specs.Faults.{is_leaf, is_no_pin}

-- some names, each once
abbrev pub name_set : List (List ℕ) → List (List ℕ)
name_set names = fold with_name [] names

-- the names of a module's port list, and those that its items declare as ports
abbrev pub port_set : Module → List (List ℕ)
port_set m = name_set m.ports

-- the names that the items of a module declare as ports
abbrev pub declared_set : Module → List (List ℕ)
declared_set m = name_set (flat_map port_names m.items)

-- whether some of the wanted names aren't there
abbrev pub lacks_any : List (List ℕ) → List (List ℕ) → Bool
lacks_any names wanted = list_any (λ name. not (is_among name names)) wanted

-- whether a binding has a pin of a name
abbrev pub is_pin : Source → Binding → List ℕ → Bool
is_pin s t name = is_among name (pin_names (binding_pins s t))

-- whether a binding takes fewer ordered connections than there are
abbrev pub takes_fewer : Source → Binding → ℕ → Bool
takes_fewer s t count = nat_lt 0 count && (is_leaf t || nat_lt (length (binding_pins s t)) count)

-- whether an item of a module lacks a pin
abbrev pub lacks_item : Source → Module → Item → Bool
lacks_item s m i = is_no_pin s (statement_of [] m [] (Some i))
