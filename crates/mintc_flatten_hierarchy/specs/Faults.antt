-- The rules on the statements of a netlist, each as a test on one statement with what stands before it.
use Rattle.std.specs.Prelude.{ℕ, zero, suc, nat_eq, nat_lt, Bool, true, false, not, ◌&&◌, ◌||◌, Option, None, Some}
use Rattle.std.specs.Prelude.{List, [], ◌∷◌, ◌++◌, length, bytes_eq, find}
use Rattle.std.specs.List.{list_any, flat_map}
use Rattle.std.specs.Option.{option_eq, option_map_or}
use Rattle.mintc_netlist.specs.declared.expression.Span.{Span}
use Rattle.mintc_netlist.specs.declared.module.Connection.{Connection}
use Rattle.mintc_netlist.specs.declared.module.Item.{Item}
use Rattle.mintc_netlist.specs.declared.module.Item.TheVariants as item
use Rattle.mintc_netlist.specs.declared.module.Module.{Module}
use Rattle.mintc_text_names.specs.Names.{is_among}
use Rattle.mintc_netlist.specs.Again.{comes_again}
use Rattle.mintc_netlist.specs.Nets.{port_names, net_names, span_of, declares_port, declares_net}
use Rattle.mintc_netlist.specs.Expressions.{width_of, selects_fit, has_constant}
use Rattle.mintc_netlist.specs.Connections.{Pin, pin_names, named_pins, Wiring, wirings_of, drives, driven_first}
use Rattle.mintc_netlist.specs.Statements.{Statement}
use Rattle.mintc_flatten_hierarchy.specs.declared.bindings.Binding.{Binding}
use Rattle.mintc_flatten_hierarchy.specs.declared.bindings.Binding.TheVariants.{OfCell, OfModule, OfNothing}
use Rattle.mintc_flatten_hierarchy.specs.Sources.{Source, module_at, is_called, binding_in, pins_at, children_of}

-- Names given twice: a second module of a name; a name twice in a port list; two port declarations, two net
-- declarations or two instances of a name in one module; a pin connected twice by name.
abbrev pub instance_names : Item → List (List ℕ)
instance_names (item.Instance entry cell name by_name connections) = name ∷ []
instance_names _ = []

-- whether an item, or the head of a module where there is none, gives a name again
abbrev pub gives_again : Statement → Option Item → Bool
gives_again st None = list_any (is_called st.module_nets.name) st.earlier
    || comes_again bytes_eq [] st.module_nets.ports
gives_again st (Some (item.Port entry output span names)) = comes_again bytes_eq (flat_map port_names st.before) names
gives_again st (Some (item.Wire entry span names)) = comes_again bytes_eq (flat_map net_names st.before) names
gives_again st (Some (item.Assign entry left right)) = false
gives_again st (Some (item.Instance entry cell name by_name connections)) =
    is_among name (flat_map instance_names st.before) || comes_again bytes_eq [] (named_pins connections)

-- whether a statement gives a name again
abbrev pub is_name_twice : Statement → Bool
is_name_twice st = gives_again st st.item

-- Instances of what is neither described nor a module.
abbrev pub is_nothing : Binding → Bool
is_nothing OfNothing = true
is_nothing _ = false

-- whether an item is an instance of nothing
abbrev pub has_no_module : Source → Option Item → Bool
has_no_module s (Some (item.Instance entry cell name by_name connections)) = is_nothing
    (binding_in s (item.Instance entry cell name by_name connections))
has_no_module s _ = false

-- whether a statement is an instance of nothing
abbrev pub is_no_module : Source → Statement → Bool
is_no_module s st = has_no_module s st.item

-- Instances on a closed chain of instantiations. Module k leads to the module of a name within so many instantiations.
abbrev pub leads : Source → ℕ → List ℕ → ℕ → Bool
leads s zero name k = is_called name (module_at s k)
leads s (suc most) name k = is_called name (module_at s k)
    || list_any (leads s most name) (children_of s (module_at s k))

-- whether a binding leads to a module of the name of the module that it stands in
abbrev pub leads_back : Source → Module → Binding → Bool
leads_back s module_nets (OfModule k) = leads s (length s.modules) module_nets.name k
leads_back s module_nets _ = false

-- whether a statement is an instance on a closed chain
abbrev pub is_recursive : Source → Statement → Bool
is_recursive s st = option_map_or (λ i. leads_back s st.module_nets (binding_in s i)) st.item false

-- Ports and pins that aren't there: a port of a port list without a direction; a port declaration that isn't in the
-- list; a pin that the cell or module doesn't have; more ordered connections than ports; ordered connections, one
-- or more, to a described cell.
abbrev pub is_leaf : Binding → Bool
is_leaf (OfCell n) = true
is_leaf _ = false

-- whether connections, by name or in order, are to pins that are none of these
abbrev pub misses : Bool → Binding → List Pin → List Connection → Bool
misses true binding pins connections = list_any (λ name. not (is_among name (pin_names pins))) (named_pins connections)
misses false binding pins connections = nat_lt 0 (length connections)
    && (is_leaf binding || nat_lt (length pins) (length connections))

-- whether an item, or the head of a module where there is none, speaks of a port or pin that is none
abbrev pub lacks_pin : Source → Statement → Option Item → Bool
lacks_pin s st None = list_any (λ name. not (list_any (declares_port name) st.module_nets.items)) st.module_nets.ports
lacks_pin s st (Some (item.Port entry output span names)) = list_any
    (λ name. not (is_among name st.module_nets.ports)) names
lacks_pin s st (Some (item.Instance entry cell name by_name connections)) =
    misses by_name (binding_in s (item.Instance entry cell name by_name connections))
    (pins_at s (item.Instance entry cell name by_name connections)) connections
lacks_pin s st _ = false

-- whether a statement speaks of a port or pin that is none
abbrev pub is_no_pin : Source → Statement → Bool
is_no_pin s st = lacks_pin s st st.item

-- Widths and selects that don't fit: a port and a net declaration of one name with different ranges, of which the
-- later is at fault; two sides of different widths; a select that doesn't fit its range; a constant where something
-- drives.
abbrev pub span_eq : Span → Span → Bool
span_eq a b = nat_eq a.msb b.msb && nat_eq a.lsb b.lsb

-- whether a declaration has another range
abbrev pub is_of_other_range : Option Span → Item → Bool
is_of_other_range span declared = not (option_eq span_eq span (span_of declared))

-- whether what is connected to a pin does not fit it
abbrev pub is_wired_badly : Module → Wiring → Bool
is_wired_badly m w = (not (selects_fit m w.pieces) || not (nat_eq (width_of m w.pieces) (length w.pin.places)))
    || (w.pin.output && has_constant w.pieces)

-- whether an item has widths, ranges or selects that do not fit
abbrev pub misfits : Source → Statement → Option Item → Bool
misfits s st (Some (item.Port entry output span names)) = list_any
    (λ name. option_map_or (is_of_other_range span) (find (declares_net name) st.before) false) names
misfits s st (Some (item.Wire entry span names)) = list_any
    (λ name. option_map_or (is_of_other_range span) (find (declares_port name) st.before) false) names
misfits s st (Some (item.Assign entry left right)) =
    (not (selects_fit st.module_nets left && selects_fit st.module_nets right)
    || not (nat_eq (width_of st.module_nets left) (width_of st.module_nets right))) || has_constant left
misfits s st (Some (item.Instance entry cell name by_name connections)) =
    list_any (is_wired_badly st.module_nets)
    (wirings_of (item.Instance entry cell name by_name connections)
    (pins_at s (item.Instance entry cell name by_name connections)))
misfits s st None = false

-- whether a statement has widths, ranges or selects that do not fit
abbrev pub is_misfit : Source → Statement → Bool
is_misfit s st = misfits s st st.item

-- Statements that drive what is driven already, by an input port, by a statement before or by themselves.
abbrev pub drives_in : Source → Module → Item → List ℕ
drives_in s m i = drives m (pins_at s i) i

-- whether a statement drives what is driven already
abbrev pub is_second_driver : Source → Statement → Bool
is_second_driver s st = option_map_or
    (λ i. comes_again nat_eq (driven_first st.module_nets ++ flat_map (drives_in s st.module_nets) st.before)
    (drives_in s st.module_nets i)) st.item false
