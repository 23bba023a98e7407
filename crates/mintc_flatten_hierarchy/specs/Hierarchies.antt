-- The hierarchy from a module, as lists over the walk.
use Rattle.std.specs.Prelude.{ℕ, ◌+◌, cond, Option, None, Some, List, [], ◌∷◌, ◌++◌, map}
use Rattle.std.specs.List.{flat_map, filter_map}
use Rattle.std.specs.Option.{option_map}
use Rattle.mintc_cells.specs.declared.cell.Cell.{Cell}
use Rattle.mintc_cells.specs.Rules.{pins}
use Rattle.mintc_netlist.specs.declared.expression.Piece.{Piece}
use Rattle.mintc_netlist.specs.declared.module.Item.{Item}
use Rattle.mintc_netlist.specs.declared.module.Item.TheVariants as item
use Rattle.mintc_netlist.specs.declared.module.Module.{Module}
use Rattle.mintc_netlist.specs.Nets.{Bit, nets_of}
use Rattle.mintc_netlist.specs.Expressions.{expression_places}
use Rattle.mintc_netlist.specs.Connections.{Pin, Wiring, wirings_of, ports_of}
use Rattle.mintc_flatten_hierarchy.specs.declared.hierarchy.Scope.{Scope}
use Rattle.mintc_flatten_hierarchy.specs.declared.hierarchy.Leaf.{Leaf}
use Rattle.mintc_flatten_hierarchy.specs.declared.hierarchy.Inner.{Inner}
use Rattle.mintc_flatten_hierarchy.specs.declared.hierarchy.Inner.TheVariants as inner
use Rattle.mintc_flatten_hierarchy.specs.declared.hierarchy.Join.{Join}
use Rattle.mintc_flatten_hierarchy.specs.declared.hierarchy.TopPort.{TopPort}
use Rattle.mintc_flatten_hierarchy.specs.declared.hierarchy.Hierarchy.{Hierarchy}
use Rattle.mintc_flatten_hierarchy.specs.declared.bindings.Binding.{Binding}
use Rattle.mintc_flatten_hierarchy.specs.declared.bindings.Binding.TheVariants.{OfCell, OfModule, OfNothing}
use Rattle.mintc_flatten_hierarchy.specs.Sources.{Source, module_at, cell_at, binding_in, pins_at}
use Rattle.mintc_flatten_hierarchy.specs.Walks.{Place, Step, walk}

-- the name of an instance
abbrev pub name_of : Item → List ℕ
name_of (item.Instance entry cell name by_name connections) = name
name_of _ = []

-- the number of the statement of an instance
abbrev pub statement_of : Item → ℕ
statement_of (item.Instance entry cell name by_name connections) = entry
statement_of _ = 0

-- the scope that a step is, or the leaf
abbrev pub scope_in : Step → Binding → Option Scope
scope_in step (OfModule k) = Some (record { «module» = k; parent = step.place.scope; name = name_of step.item })
scope_in step _ = None

-- the leaf that a step is
abbrev pub leaf_in : Step → Binding → Option Leaf
leaf_in step (OfCell n) = Some (record {
  scope = step.place.scope;
  name = name_of step.item;
  cell = n;
  first_pin = step.before.inner;
  entry = statement_of step.item;
})
leaf_in step _ = None

-- the nets of a scope, the pins of a leaf
abbrev pub net_of : ℕ → Bit → Inner
net_of number b = inner.Net number b.name b.index

-- the nets of a scope of a number, bit by bit
abbrev pub nets_in : ℕ → Module → List Inner
nets_in number m = map (net_of number) (nets_of m)

-- the pins of a leaf of a number
abbrev pub pins_in : ℕ → Cell → List Inner
pins_in number cell = map (λ name. inner.Pin number name) (pins cell)

-- the inner bits that a step brings
abbrev pub inner_in : Source → Step → Binding → List Inner
inner_in s step (OfCell n) = pins_in step.before.leaves (cell_at s n)
inner_in s step (OfModule k) = nets_in step.before.scopes (module_at s k)
inner_in s step OfNothing = []

-- the inner bits that an expression stands for in a scope, from the rightmost; none for a constant's
abbrev pub numbers_of : Place → List Piece → List (Option ℕ)
numbers_of place pieces = map (option_map (λ at. place.first + at)) (expression_places place.module_nets pieces)

-- a join by its two bits
abbrev pub join_of : ℕ → ℕ → Join
join_of from to = record { from = from; to = to }

-- each bit joined to the one at its place; constants join nothing
abbrev pub joined : List (Option ℕ) → List (Option ℕ) → List Join
joined (Some from ∷ froms) (Some to ∷ tos) = join_of from to ∷ joined froms tos
joined (None ∷ froms) (to ∷ tos) = joined froms tos
joined (Some from ∷ froms) (None ∷ tos) = joined froms tos
joined _ _ = []

-- from an expression to an input pin, and from an output pin to an expression; the bits of the pin's cell or scope
-- begin at a number
abbrev pub wiring_joins : Place → ℕ → Wiring → List Join
wiring_joins place first w = cond w.pin.output
    (joined (map (λ at. Some (first + at)) w.pin.places) (numbers_of place w.pieces))
    (joined (numbers_of place w.pieces) (map (λ at. Some (first + at)) w.pin.places))

-- the joins of a step: an assign's from right to left, an instance's pin by pin
abbrev pub joins_in : Source → Step → Item → List Join
joins_in s step (item.Assign entry left right) = joined (numbers_of step.place right) (numbers_of step.place left)
joins_in s step i = flat_map (wiring_joins step.place step.before.inner) (wirings_of i (pins_at s i))

-- the scope of the top, whose module has this number
abbrev pub top_scope : ℕ → Scope
top_scope top = record { «module» = top; parent = 0; name = [] }

-- a port of the top by its pin
abbrev pub top_port : Pin → TopPort
top_port p = record { name = p.name; output = p.output; bits = p.places }

-- the hierarchy from a module, of the steps of its walk
abbrev pub hierarchy_from : Source → ℕ → List Step → Hierarchy
hierarchy_from s top steps = record {
  scopes = top_scope top ∷ filter_map (λ (step : Step). scope_in step (binding_in s step.item)) steps;
  leaves = filter_map (λ (step : Step). leaf_in step (binding_in s step.item)) steps;
  inner = nets_in 0 (module_at s top) ++ flat_map (λ (step : Step). inner_in s step (binding_in s step.item)) steps;
  joins = flat_map (λ (step : Step). joins_in s step step.item) steps;
  ports = map top_port (ports_of (module_at s top));
}

-- the hierarchy from a module
abbrev pub hierarchy_of : Source → ℕ → Hierarchy
hierarchy_of s top = hierarchy_from s top (walk s top)
