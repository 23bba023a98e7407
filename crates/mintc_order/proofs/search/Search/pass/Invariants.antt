use Rattle.std.proofs.Common.{◌≤◌, ◌-◌}
use Rattle.mintc_order.specs.Searches.{ArePassed}
use Rattle.mintc_order.proofs.search.Search.pass.Given as goal

abbrev pub invariant-loop-next : goal.invariant-loop-next
invariant-loop-next l = record {
  first : l.first ≤ l.next;
  stop : l.next ≤ l.stop;
  passed : ArePassed l.ends l.self.marks.items l.first l.next;
}

abbrev pub decreases-loop-next : goal.decreases-loop-next
decreases-loop-next l = l.stop - l.next
