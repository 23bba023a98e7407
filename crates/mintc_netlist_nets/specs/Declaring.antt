-- What names are declared as: a name with its range and direction, the first declaration of a name counting.
use Rattle.std.specs.Prelude.{ℕ, Bool, false, is_some, cond, Option, List, [], ◌∷◌, ◌++◌, map, bytes_eq}
use Rattle.std.specs.Map.{lookup}
use Rattle.mintc_netlist.specs.declared.expression.Span.{Span}
use Rattle.mintc_netlist.specs.declared.module.Item.{Item}
use Rattle.mintc_netlist.specs.Nets.{port_names, net_names, span_of, is_output_port}
use Rattle.mintc_netlist_nets.specs.declared.declared.Declaration.{Declaration}

-- a declaration by its range and its direction
abbrev pub declaration : Option Span → Bool → Declaration
declaration span output = record { span = span; output = output }

-- a name with a declaration
abbrev pub declared_as : Declaration → List ℕ → List ℕ × Declaration
declared_as d name = (name, d)

-- the first declaration of a name
abbrev pub look : List ℕ → List (List ℕ × Declaration) → Option Declaration
look name ds = lookup (bytes_eq name) ds

-- some declarations and one more, which counts where its name wasn't there
abbrev pub with_declaration : List (List ℕ × Declaration) → List ℕ × Declaration → List (List ℕ × Declaration)
with_declaration ds d = cond (is_some (look d.0 ds)) ds (ds ++ d ∷ [])

-- what a statement declares as ports, and as nets
abbrev pub port_declarations : Item → List (List ℕ × Declaration)
port_declarations i = map (declared_as (declaration (span_of i) (is_output_port i))) (port_names i)

-- what a statement declares as nets
abbrev pub net_declarations : Item → List (List ℕ × Declaration)
net_declarations i = map (declared_as (declaration (span_of i) false)) (net_names i)
