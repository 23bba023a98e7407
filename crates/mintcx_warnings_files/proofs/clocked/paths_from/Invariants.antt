use Rattle.std.proofs.Common.{◌≡◌, take}
use Rattle.mintcx_warnings_files.specs.Written.{paths_from}
use Rattle.mintcx_warnings_files.proofs.clocked.paths_from.Given as goal

-- those of the paths so far
abbrev pub invariant-loop-path : goal.invariant-loop-path
invariant-loop-path l = l.found.items ≡ paths_from (take l.path-index l.paths) l.cell
