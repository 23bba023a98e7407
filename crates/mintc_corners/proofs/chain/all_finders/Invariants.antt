use Rattle.std.proofs.Common.{◌≡◌, length}
use Rattle.mintc_corners.proofs.chain.all_finders.Given as goal

-- a finder for each system so far
abbrev pub invariant-loop-system : goal.invariant-loop-system
invariant-loop-system l = length l.finders.items ≡ l.system-index
