-- What an instance connects to the pins of what it is of, pin by pin.
use Rattle.std.specs.Prelude.{◌≡◌, ◌<◌, ℕ, true, false, List, [], length, slice_index, slice_index_or, position}
use Rattle.std.specs.Prelude.{bytes_eq}
use Rattle.std.specs.Option.{option_map, option_to_list}
use Rattle.mintc_netlist.specs.declared.module.Connection.{Connection}
use Rattle.mintc_netlist.specs.declared.module.Item.{Item}
use Rattle.mintc_netlist.specs.declared.module.Item.TheVariants as item
use Rattle.mintc_netlist.specs.Connections.{Pin, pin_of, is_to, Wiring, wiring_of, expression_at}
use Rattle.mintc_flatten_hierarchy.specs.declared.bindings.Binding.{Binding}
use Rattle.mintc_flatten_hierarchy.specs.Sources.{Source, binding_pins}
use Rattle.mintc_flatten_binding.specs.declared.connection_index.ConnectionIndex.{ConnectionIndex}
use Rattle.mintc_flatten_binding.specs.declared.connection_index.TheConstants.{FEW}

-- a pin that stands for those past the end of a list
abbrev pub no_pin : Pin
no_pin = pin_of [] false []

-- a pin of a binding by its number
abbrev pub pin_at : Source → Binding → ℕ → Pin
pin_at s t number = slice_index_or (binding_pins s t) number no_pin

-- the wiring of a pin by its number, if an expression is connected to it
abbrev pub wiring_at : Item → Source → Binding → ℕ → List Wiring
wiring_at i s t number = option_to_list
    (option_map (wiring_of (pin_at s t number)) (expression_at i number (pin_at s t number).name))

-- Each pin that connections name stands once among the names, and the number beside it is that of the first
-- connection to it.
pub record IsConnected (names : List (List ℕ)) (numbers : List ℕ) (connections : List Connection) : Type 0 where
  pub each : length numbers ≡ length names
  pub found : (name : List ℕ) → option_map (slice_index numbers) (position (bytes_eq name) names)
      ≡ position (is_to name) connections

-- the same of the index as the code has it
abbrev pub IsConnectedBy : ConnectionIndex → List Connection → Type 0
IsConnectedBy c connections = IsConnected c.names c.numbers.items connections

-- This is kept of an instance by name with more than a few connections; few are looked through.
abbrev pub IsOfItem : ConnectionIndex → Item → Type 0
IsOfItem c (item.Instance entry cell name true connections) = FEW < length connections → IsConnectedBy c connections
IsOfItem c _ = Unit {0}
