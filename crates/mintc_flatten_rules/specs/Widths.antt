-- What is kept of a module's items to find widths that don't fit.
use Rattle.std.specs.Prelude.{◌≡◌, ℕ, Bool, false, not, Option, Some, List, []}
use Rattle.std.specs.List.{flat_map, fold}
use Rattle.std.specs.Option.{option_eq, option_map_or}
use Rattle.mintc_netlist.specs.declared.expression.Span.{Span}
use Rattle.mintc_netlist.specs.declared.module.Item.{Item}
use Rattle.mintc_netlist.specs.declared.module.Module.{Module}
use Rattle.mintc_netlist.specs.Statements.{statement_of}
use Rattle.mintc_netlist_nets.specs.declared.declared.Declaration.{Declaration}
use Rattle.mintc_netlist_nets.specs.Declaring.{look, with_declaration, port_declarations, net_declarations}
use Rattle.mintc_flatten_hierarchy.specs.Sources.{Source}
use Rattle.mintc_flatten_hierarchy.specs.Faults.{span_eq, is_misfit}
use Rattle.mintc_flatten_rules.specs.declared.widths.Declared.{Declared}

-- whether a name is declared with another range
abbrev pub is_other : Option Span → Declaration → Bool
is_other span d = not (option_eq span_eq span d.span)

-- whether a name is among declarations, with another range
abbrev pub differs : List (List ℕ × Declaration) → Option Span → List ℕ → Bool
differs ds span name = option_map_or (is_other span) (look name ds) false

-- what some items declare as ports and as nets, each name with its first declaration
pub record IsDeclared (of_ports of_nets : List (List ℕ × Declaration)) (before : List Item) : Type 0 where
  pub ports : of_ports ≡ fold with_declaration [] (flat_map port_declarations before)
  pub nets : of_nets ≡ fold with_declaration [] (flat_map net_declarations before)

-- the same of the declarations as the code has them
abbrev pub IsDeclaredBy : Declared → List Item → Type 0
IsDeclaredBy d before = IsDeclared d.ports d.nets before

-- whether an item doesn't fit, after some items of its module
abbrev pub misfits_after : Source → Module → List Item → Item → Bool
misfits_after s m before i = is_misfit s (statement_of [] m before (Some i))
