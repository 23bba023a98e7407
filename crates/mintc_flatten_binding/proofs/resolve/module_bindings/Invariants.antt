use Rattle.std.proofs.Common.{◌≡◌, map, take}
use Rattle.mintc_flatten_hierarchy.specs.Sources.{source_of, binding_in}
use Rattle.mintc_flatten_binding.proofs.resolve.module_bindings.Given as goal

abbrev pub invariant-loop-item : goal.invariant-loop-item
invariant-loop-item l = l.bindings.items ≡ map (binding_in (source_of l.cells l.modules)) (take l.item-index l.module.items)
