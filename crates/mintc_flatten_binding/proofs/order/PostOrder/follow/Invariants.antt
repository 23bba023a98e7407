use Rattle.mintc_flatten_hierarchy.specs.Sources.{source_of}
use Rattle.mintc_flatten_binding.specs.PostOrder.{IsOrderingOf}
use Rattle.mintc_flatten_binding.proofs.order.PostOrder.follow.Given as goal

abbrev pub invariant-loop : goal.invariant-loop
invariant-loop l = IsOrderingOf (source_of l.cells l.modules) l.self
