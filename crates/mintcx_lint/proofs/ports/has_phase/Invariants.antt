use Rattle.std.proofs.Common.{◌≡◌, drop}
use Rattle.std.specs.List.{list_any}
use Rattle.mintcx_lint.specs.Ports.{is_on}
use Rattle.mintcx_lint.proofs.ports.has_phase.Given as goal

-- it depends on the phases that are left
abbrev pub invariant-loop-phase : goal.invariant-loop-phase
invariant-loop-phase l = list_any (is_on l.port) l.phases ≡ list_any (is_on l.port) (drop l.phase-index l.phases)
