use Rattle.std.proofs.Common.{◌≡◌, ◌++◌, drop}
use Rattle.std.specs.List.{All}
use Rattle.mintc_corners.specs.CornerOptimum.{AreDeparturesInRange}
use Rattle.mintc_corners.specs.Joined.{departures_after, departures_of_all, AreSayableAfter}
use Rattle.mintc_corners.proofs.departing.all_departures.Given as goal

-- the departures so far and those of the corners that are left
abbrev pub invariant-loop-system : goal.invariant-loop-system
invariant-loop-system l =
    (l.all.items ++ departures_after l.clock l.before (drop l.system-index l.systems) l.values ≡ departures_of_all l.systems l.values)
    × AreSayableAfter l.clock l.before (drop l.system-index l.systems) l.values × All AreDeparturesInRange l.all.items
