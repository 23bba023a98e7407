use Rattle.std.proofs.Common.{◌≡◌, ◌++◌, drop, map}
use Rattle.mintcx_project.specs.Projects.{beside}
use Rattle.mintcx_project.proofs.project.all_beside.Given as goal

-- the paths so far, and those that are left
abbrev pub invariant-loop-path : goal.invariant-loop-path
invariant-loop-path l = map (beside l.project) l.paths ≡ l.names.items ++ map (beside l.project) (drop l.path-index l.paths)
