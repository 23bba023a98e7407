-- Whether a design has edges merged, by words.
use Rattle.std.specs.Prelude.{ℕ, Bool, true, false, List, Option, Some, None, bytes_eq, codes, if◌then◌else◌}
use Rattle.mintcx_project.specs.declared.edges.Edges.{Edges}
use Rattle.mintcx_project.specs.declared.edges.Edges.TheVariants as edges

-- what a word says of edges; any other word means that they are merged
abbrev pub edges_of : List ℕ → Edges
edges_of word = if bytes_eq word (codes "apart") then edges.Apart else edges.Merged

-- edges are kept apart
abbrev pub are_apart : Option Edges → Bool
are_apart (Some edges.Apart) = true
are_apart said = false
