use Rattle.std.proofs.Common.{◌≡◌, ◌+◌, [], take, drop}
use Rattle.mintc_clock.specs.ClockOf.{first_clash}
use Rattle.mintc_clock.specs.Taken.{AreTaken}
use Rattle.mintc_clock.proofs.clashing.Taken.take_all.Given as goal

-- it depends on the phases that are left, and on those before, whose names and ports are taken
abbrev pub invariant-loop-number : goal.invariant-loop-number
invariant-loop-number l = (first_clash 1 [] l.phases ≡ first_clash (l.number + 1) (take l.number l.phases) (drop l.number l.phases)) × AreTaken (take l.number l.phases) l.self
