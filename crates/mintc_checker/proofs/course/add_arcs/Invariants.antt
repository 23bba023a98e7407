use Rattle.std.proofs.Common.{◌≡◌, take}
use Rattle.mintc_checker.specs.Course.{moved}
use Rattle.mintc_checker.proofs.course.add_arcs.Given as goal

-- the arcs so far
abbrev pub invariant-loop-place : goal.invariant-loop-place
invariant-loop-place l = l.steps.items ≡ moved l.flat.arcs (take l.place l.order)
