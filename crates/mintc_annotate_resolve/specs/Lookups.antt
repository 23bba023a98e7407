-- What delays may annotate.
use Rattle.std.specs.Prelude.{ℕ, Option, Some, None}
use Rattle.mintc_sdf.specs.declared.delays.Subject.{Subject}
use Rattle.mintc_flatten_hierarchy.specs.declared.hierarchy.Hierarchy.{Hierarchy}
use Rattle.mintc_flatten_hierarchy.specs.Shape.{CellTable, IsFlattened}
use Rattle.mintc_annotate_resolve.specs.Resolution.{Resolved, no_instance, of_leaf}
use Rattle.mintc_annotate_resolve.specs.Names.{HasNames}
use Rattle.mintc_annotate_resolve.specs.Places.{ArePlaces}
use Rattle.mintc_annotate_resolve.specs.Instances.{AreIndexed}
use Rattle.mintc_annotate_resolve.specs.declared.resolving.Lookup.{Lookup}

-- the hierarchy is in shape, and its ports and instances are indexed
pub record IsLookup (lookup : Lookup) : Type 0 where
  pub shape : IsFlattened lookup.cells.now lookup.hierarchy.now
  pub named : HasNames lookup.hierarchy.now
  pub places : ArePlaces lookup.hierarchy.now lookup.places
  pub index : AreIndexed lookup.hierarchy.now lookup.instances

-- what a delay that isn't one of a wire annotates at a leaf, if there is one
abbrev pub of_leaf_at : Hierarchy → CellTable → Subject → Option ℕ → Resolved
of_leaf_at h cells s None = no_instance
of_leaf_at h cells s (Some l) = of_leaf h cells l s
