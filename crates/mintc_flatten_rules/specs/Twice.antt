-- What is kept of a module's items to find names that come again.
use Rattle.std.specs.Prelude.{◌≡◌, ℕ, List, [], ◌∷◌, ◌++◌, Bool, true, not, ◌||◌, cond, bytes_eq, Option, Some, None}
use Rattle.std.specs.Prelude.{false}
use Rattle.std.specs.Option.{option_or, option_map_or}
use Rattle.std.specs.List.{flat_map}
use Rattle.mintc_netlist.specs.declared.module.Item.{Item}
use Rattle.mintc_netlist.specs.Nets.{port_names, net_names}
use Rattle.mintc_text_names.specs.Names.{is_among, with_name}
use Rattle.mintc_netlist.specs.Again.{comes_again}
use Rattle.mintc_flatten_rules.specs.declared.name_twice.Seen.{Seen}
use Rattle.mintc_flatten_hierarchy.specs.Faults.{instance_names, gives_again, is_name_twice}
use Rattle.mintc_flatten_rules.specs.Firsts.{first_after}
use Rattle.mintc_netlist.specs.declared.module.Module.{Module}
use Rattle.mintc_netlist.specs.Statements.{statement_of}
use Rattle.mintc_flatten_hierarchy.specs.Sources.{no_module}

-- the names that some items give as ports, as nets and as instances
pub record IsSeen (of_ports of_nets of_instances : List (List ℕ)) (before : List Item) : Type 0 where
  pub ports : of_ports ≡ flat_map port_names before
  pub nets : of_nets ≡ flat_map net_names before
  pub instances : of_instances ≡ flat_map instance_names before

-- whether a pin, if one is named, is among some names
abbrev pub is_pin_among : List (List ℕ) → Option (List ℕ) → Bool
is_pin_among names pin = option_map_or (λ (name : List ℕ). is_among name names) pin false

-- What is kept of named pins after one more connection: its pin, if it names one, and whether that wasn't there.
abbrev pub AddsPin : List (List ℕ) → List (List ℕ) → Option (List ℕ) → Bool → Type 0
AddsPin old new None fresh = (fresh ≡ true) × (new ≡ old)
AddsPin old new (Some pin) fresh = (fresh ≡ not (is_among pin old)) × (new ≡ with_name old pin)

-- the same of the names as the code has them
abbrev pub IsSeenBy : Seen → List Item → Type 0
IsSeenBy seen before = IsSeen seen.ports seen.nets seen.instances before

-- whether an item gives a name again, after some items of its module
abbrev pub gives_item : List Item → Item → Bool
gives_item before i = gives_again (statement_of [] no_module before None) (Some i)

-- the first statement of a module that gives a name again, where the modules before it have these names
abbrev pub first_again : List (List ℕ) → Module → Option ℕ
first_again names m = cond (is_among m.name names || comes_again bytes_eq [] m.ports) (Some m.entry)
    (first_after is_name_twice m [] m.items)

-- the same among some modules after modules of these names
abbrev pub first_again_of : List (List ℕ) → List Module → Option ℕ
first_again_of names [] = None
first_again_of names (m ∷ ms) = option_or (first_again names m) (first_again_of (names ++ m.name ∷ []) ms)
