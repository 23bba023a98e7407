-- The cells and the modules of a netlist, as the code has them.
use Rattle.mintc_flatten_hierarchy.specs.Sources.{Source, source_of}
use Rattle.mintc_flatten_binding.specs.declared.tables.Source as table

-- the source that the code has
abbrev pub source_in : table.Source → Source
source_in s = source_of s.cells.now s.modules.now
