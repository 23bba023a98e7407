-- What the matches of a command give.
use Rattle.std.specs.Prelude.{Bool, false, List, [], Option, Some, None, find, option_map, option_and_then}
use Rattle.std.specs.Prelude.{unwrap_or, bytes_eq, codes}
use Rattle.std.specs.Option.{option_map_or}
use Rattle.clap.specs.Words.{Row, Text, first_of, all_of}
use Rattle.clap.specs.declared.parser.matches.ValueSource.{ValueSource}
use Rattle.clap.specs.declared.parser.matches.ValueSource.TheVariants.{DefaultValue, CommandLine}
use Rattle.mintcx_requests.specs.declared.commands.Asked.{Asked}
use Rattle.mintcx_manners.specs.declared.manners.TimeUnit.{TimeUnit}
use Rattle.mintcx_project.specs.Edges.{edges_of}
use Rattle.mintcx_project.specs.declared.edges.Edges.{Edges}
use Rattle.mintcx_project.specs.declared.sources.Sources.{Sources}
use Rattle.mintcx_requests.specs.declared.given.MannerWords.{MannerWords}
use Rattle.mintcx_requests.specs.declared.given.Particulars.{Particulars}
use Rattle.mintcx_requests.specs.declared.given.Given.{Given}
use Rattle.mintcx_requests.specs.Commands.{command_named}
use Rattle.mintcx_manners.specs.Manners.{format_of, unit_of, detail_of, color_of}

-- all values of an option, none where it isn't used
abbrev pub values_at : List Row → Text → List Text
values_at rows id = unwrap_or (all_of id rows) []

-- a flag is set
abbrev pub flag_at : List Row → Text → Bool
flag_at rows id = option_map_or (λ t. bytes_eq t (codes "true")) (first_of id rows) false

-- the value of an option that has a default
abbrev pub chosen_at : List Row → Text → Text
chosen_at rows id = unwrap_or (first_of id rows) []

-- where the values of an option come from
abbrev pub source_at : List Row → Text → Option ValueSource
source_at rows id = option_and_then (λ r. r.source) (find (λ r. bytes_eq r.id id) rows)

-- the unit, where the words name it
abbrev pub unit_from : Option ValueSource → Text → Option TimeUnit
unit_from None word = None
unit_from (Some DefaultValue) word = None
unit_from (Some CommandLine) word = Some (unit_of word)

-- the unit that the words name, where they name one
abbrev pub unit_at : List Row → Option TimeUnit
unit_at rows = unit_from (source_at rows (codes "unit")) (chosen_at rows (codes "unit"))

-- what is said of edges, where the words say it
abbrev pub edges_from : Option ValueSource → Text → Option Edges
edges_from None word = None
edges_from (Some DefaultValue) word = None
edges_from (Some CommandLine) word = Some (edges_of word)

-- what the words say of edges, where they do
abbrev pub edges_at : List Row → Option Edges
edges_at rows = edges_from (source_at rows (codes "edges")) (chosen_at rows (codes "edges"))

-- the parts of a design, each by its own option
abbrev pub sources_at : List Row → Sources
sources_at rows = record {
  netlist = first_of (codes "netlist") rows;
  delays = values_at rows (codes "sdf");
  cells = first_of (codes "cells") rows;
  library = first_of (codes "lib") rows;
  clock_cells = values_at rows (codes "clock-cell");
  clock = first_of (codes "clock") rows;
  table = first_of (codes "table") rows;
  edges = edges_at rows;
}

-- how the answer is to be given, each part by its own option
abbrev pub manner_at : List Row → MannerWords
manner_at rows = record {
  format = format_of (chosen_at rows (codes "format"));
  unit = unit_at rows;
  limit = first_of (codes "limit") rows;
  output = first_of (codes "output") rows;
  quiet = flag_at rows (codes "quiet");
  detail = detail_of (chosen_at rows (codes "errors"));
  color = color_of (chosen_at rows (codes "color"));
}

-- what a command alone is told
abbrev pub particulars_at : List Row → Particulars
particulars_at rows = record {
  subject = first_of (codes "subject") rows;
  certificate = first_of (codes "certificate") rows;
  cycle = first_of (codes "cycle") rows;
  histogram = flag_at rows (codes "histogram");
}

-- what the matches of a command give
abbrev pub given_by : List Row → Asked → Given
given_by rows asked = record {
  asked = asked;
  particulars = particulars_at rows;
  project = first_of (codes "project") rows;
  sources = sources_at rows;
  clamp = flag_at rows (codes "clamp-negative");
  manner = manner_at rows;
}

-- what a command's name and its matches give
abbrev pub given_of : Text × List Row → Option Given
given_of p = option_map (given_by p.1) (command_named p.0)
