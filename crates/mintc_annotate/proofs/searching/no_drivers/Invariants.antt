use Rattle.std.proofs.Common.{[]}
use Rattle.mintc_annotate.specs.Searches.{AreDrivers}
use Rattle.mintc_annotate.proofs.searching.no_drivers.Given as goal

abbrev pub invariant-loop-number : goal.invariant-loop-number
invariant-loop-number l = AreDrivers [] l.number l.table.items
