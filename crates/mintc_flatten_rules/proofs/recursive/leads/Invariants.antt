use Rattle.mintc_flatten_hierarchy.specs.Sources.{source_of}
use Rattle.mintc_flatten_rules.specs.Searching.{IsFound, ArePassed}
use Rattle.mintc_flatten_rules.proofs.recursive.leads.Given as goal

-- the modules so far don't have the name, and all that they instantiate is found
abbrev pub invariant-loop-place : goal.invariant-loop-place
invariant-loop-place l = record {
  found : IsFound (source_of l.cells l.modules) l.name l.start l.search;
  passed : ArePassed (source_of l.cells l.modules) l.name l.search l.place;
}
