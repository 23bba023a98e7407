use Rattle.std.proofs.Common.{◌≤◌, ◌-◌, List, length}
use Rattle.mintc_annotate.specs.declared.searching.Drive.{Drive}
use Rattle.mintc_annotate.specs.Searches.{AreDrivers, AreJumps}
use Rattle.mintc_annotate.proofs.searching.jumps.Given as goal

-- each round takes twice the steps of the round before
abbrev pub invariant-loop-steps : goal.invariant-loop-steps
invariant-loop-steps l = (1 ≤ l.steps) × ((ds : List Drive) → AreDrivers ds (length l.table) l.table → AreJumps ds l.steps (length l.table) l.found.items)

abbrev pub decreases-loop-steps : goal.decreases-loop-steps
decreases-loop-steps l = length l.table - l.steps
