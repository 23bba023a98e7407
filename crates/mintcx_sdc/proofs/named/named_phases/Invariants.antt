use Rattle.std.proofs.Common.{◌≡◌, map, take}
use Rattle.mintcx_sdc.specs.Named.{named_phase}
use Rattle.mintcx_sdc.proofs.named.named_phases.Given as goal

-- the phases of the names so far
abbrev pub invariant-loop-name : goal.invariant-loop-name
invariant-loop-name l = l.phases.items ≡ map named_phase (take l.name-index l.names)
