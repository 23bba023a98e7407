use Rattle.std.proofs.Common.{◌≡◌, map, take}
use Rattle.mintc_corners.specs.Joined.{own_list}
use Rattle.mintc_corners.specs.Laws.{AreSystems}
use Rattle.mintc_corners.proofs.joining.own_lists.Given as goal

-- the lists so far, and what the systems so far keep
abbrev pub invariant-loop-system : goal.invariant-loop-system
invariant-loop-system l = (l.lists.items ≡ map own_list (take l.system-index l.systems)) × AreSystems (take l.system-index l.systems)
