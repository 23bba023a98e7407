use Rattle.std.proofs.Common.{◌≡◌, map, take}
use Rattle.mintc_flatten_hierarchy.specs.Sources.{source_of, bindings_in}
use Rattle.mintc_flatten_binding.proofs.resolve.resolve.Given as goal

abbrev pub invariant-loop-module : goal.invariant-loop-module
invariant-loop-module l = l.bindings.items ≡ map (bindings_in (source_of l.cells l.modules)) (take l.module-index l.modules)
