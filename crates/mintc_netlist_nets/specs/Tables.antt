-- The nets of a module as a table, and the place of a bit in it.
use Rattle.std.specs.Prelude.{ℕ, ◌+◌, cond, Option, None, Some, List, [], ◌∷◌, length, map, fold}
use Rattle.std.specs.List.{flat_map}
use Rattle.std.specs.Int.{abs_diff}
use Rattle.std.specs.Option.{option_map_or}
use Rattle.mintc_netlist.specs.declared.expression.Span.{Span}
use Rattle.mintc_netlist.specs.declared.module.Module.{Module}
use Rattle.mintc_netlist.specs.Nets.{Bit, bit_of, indexes, range_of, names_of, nets_of, place_of}
use Rattle.mintc_netlist.specs.Expressions.{is_inside}
use Rattle.mintc_netlist_nets.specs.declared.declared.Declaration.{Declaration}
use Rattle.mintc_netlist_nets.specs.Declaring.{with_declaration, port_declarations, net_declarations}

-- how many bits a net has
abbrev pub bit_count : Option Span → ℕ
bit_count span = option_map_or (λ s. length (indexes s)) span 1

-- How far a bit stands from the rightmost bit of its net, where the net has it: a net without a range has the bit
-- without an index, a vector those of its range.
abbrev pub offset_of : Option Span → Option ℕ → Option ℕ
offset_of None None = Some 0
offset_of (Some s) (Some at) = cond (is_inside s at) (Some (abs_diff at s.lsb)) None
offset_of None (Some at) = None
offset_of (Some s) None = None

-- A module's nets: their names, each with the place of its first bit and its range, what is declared as ports and as
-- nets, and how many bits there are.
pub record NetTable : Type 0 where
  pub names : List (List ℕ)
  pub firsts : List ℕ
  pub spans : List (Option Span)
  pub ports : List (List ℕ × Declaration)
  pub wires : List (List ℕ × Declaration)
  pub count : ℕ

-- the places of the first bits of some nets, from a place on
abbrev pub firsts_from : Module → ℕ → List (List ℕ) → List ℕ
firsts_from m first [] = []
firsts_from m first (name ∷ names) = first ∷ firsts_from m (first + bit_count (range_of m name)) names

-- what a module's statements declare as ports, and as nets
abbrev pub declared_ports : Module → List (List ℕ × Declaration)
declared_ports m = fold with_declaration [] (flat_map port_declarations m.items)

-- what a module's statements declare as nets
abbrev pub declared_nets : Module → List (List ℕ × Declaration)
declared_nets m = fold with_declaration [] (flat_map net_declarations m.items)

-- the table of the nets of a module
abbrev pub table_of : Module → NetTable
table_of m = record {
  names = names_of m;
  firsts = firsts_from m 0 (names_of m);
  spans = map (range_of m) (names_of m);
  ports = declared_ports m;
  wires = declared_nets m;
  count = length (nets_of m);
}

-- the place of a bit, as those of expressions are written, and that of a bit of a vector
abbrev pub bit_place : Module → Bit → Option ℕ
bit_place m b = Some (place_of m b)

-- the place of the bit of a vector at an index
abbrev pub part_place : Module → List ℕ → ℕ → Option ℕ
part_place m name i = bit_place m (bit_of name (Some i))
