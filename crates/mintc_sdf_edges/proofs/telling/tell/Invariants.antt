use Rattle.std.proofs.Common.{◌≡◌, ◌++◌, length, drop}
use Rattle.mintc_sdf_edges.specs.Telling.{told}
use Rattle.mintc_sdf_edges.proofs.telling.tell.Given as goal

-- what is told, and what the values tell that are left
abbrev pub invariant-loop-place : goal.invariant-loop-place
invariant-loop-place l =
    l.initial.found.items ++ told l.delay l.edge (length l.spans) 0 l.spans
    ≡ l.found.items ++ told l.delay l.edge (length l.spans) l.place (drop l.place l.spans)
