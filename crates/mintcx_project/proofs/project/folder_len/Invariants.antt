use Rattle.std.proofs.Common.{◌≡◌, ◌≤◌, length, take}
use Rattle.mintcx_project.specs.Projects.{folder_len}
use Rattle.mintcx_project.proofs.project.folder_len.Given as goal

-- nothing is a slash after what is left
abbrev pub invariant-loop-len : goal.invariant-loop-len
invariant-loop-len l = (l.len ≤ length l.path) × (folder_len l.path ≡ folder_len (take l.len l.path))

abbrev pub decreases-loop-len : goal.decreases-loop-len
decreases-loop-len l = l.len
