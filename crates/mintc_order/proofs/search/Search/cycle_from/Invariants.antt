use Rattle.mintc_order.specs.Searches.{IsClosing}
use Rattle.mintc_order.proofs.search.Search.cycle_from.Given as goal

abbrev pub invariant-loop-place : goal.invariant-loop-place
invariant-loop-place l = IsClosing l.numbers l.self.nexts.items l.first l.place l.arcs.items
