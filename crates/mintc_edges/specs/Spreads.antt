-- What is said at each edge and at each transition, as the code keeps it.
use Rattle.std.specs.Prelude.{ℤ, Bool, if◌then◌else◌, Option, Some, None}
use Rattle.std.specs.Option.{option_or}
use Rattle.mintc_sdf_edges.specs.declared.delays.Edges.{Edges}
use Rattle.mintc_edges.specs.declared.edge.Edge.{Edge}
use Rattle.mintc_edges.specs.declared.edge.Edge.TheVariants.{Rise, Fall}
use Rattle.mintc_edges.specs.declared.spreads.ByEdge.{ByEdge}
use Rattle.mintc_edges.specs.declared.spreads.Spread.{Spread}
use Rattle.mintc_edges.specs.Numbers.{wider}

-- nothing said
abbrev pub no_edges : ByEdge
no_edges = record { rise = None; fall = None }

-- nothing said at any transition
abbrev pub no_spread : Spread
no_spread = record { rise = no_edges; fall = no_edges }

-- a range with one more number, where it takes the number
abbrev pub widened_if : Bool → ℤ → ℤ → Option (ℤ × ℤ) → Option (ℤ × ℤ)
widened_if takes least greatest range = if takes then wider (Some (least, greatest)) range else range

-- with one more number, which speaks of these edges
abbrev pub widened_by : Edges → ℤ → ℤ → ByEdge → ByEdge
widened_by edges least greatest x = record {
  rise = widened_if edges.rise least greatest x.rise;
  fall = widened_if edges.fall least greatest x.fall;
}

-- with one more number, which speaks of transitions from some edges to others
abbrev pub widened_along : Edges → Edges → ℤ → ℤ → Spread → Spread
widened_along from to least greatest x = record {
  rise = if from.rise then widened_by to least greatest x.rise else x.rise;
  fall = if from.fall then widened_by to least greatest x.fall else x.fall;
}

-- all that is said
abbrev pub all_of : ByEdge → Option (ℤ × ℤ)
all_of x = wider x.rise x.fall

-- all that is said at any transition
abbrev pub all_said : Spread → Option (ℤ × ℤ)
all_said x = wider (all_of x.rise) (all_of x.fall)

-- what is said at an edge
abbrev pub at_one : ByEdge → Edge → Option (ℤ × ℤ)
at_one x Rise = x.rise
at_one x Fall = x.fall

-- what is said at an edge; where nothing is, all that is said
abbrev pub at_or_all : ByEdge → Edge → Option (ℤ × ℤ)
at_or_all x e = option_or (at_one x e) (all_of x)

-- what begins at an edge
abbrev pub begun : Spread → Edge → ByEdge
begun x Rise = x.rise
begun x Fall = x.fall

-- what is said at a transition; where nothing is, all that is said
abbrev pub said_at : Spread → Edge → Edge → Option (ℤ × ℤ)
said_at x i o = option_or (at_one (begun x i) o) (all_said x)

-- what is said at the transitions to an edge; where nothing is, all that is said
abbrev pub said_to : Spread → Edge → Option (ℤ × ℤ)
said_to x o = option_or (wider (at_one x.rise o) (at_one x.fall o)) (all_said x)
