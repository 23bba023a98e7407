use Rattle.mintc_flatten_hierarchy.specs.Sources.{source_of}
use Rattle.mintc_flatten_binding.specs.PostOrder.{IsOrdering}
use Rattle.mintc_flatten_binding.proofs.order.modules_in_order.Given as goal

abbrev pub invariant-loop-number : goal.invariant-loop-number
invariant-loop-number l = IsOrdering (source_of l.cells l.modules) l.search.order.items l.search.places.items l.search.nexts.items
